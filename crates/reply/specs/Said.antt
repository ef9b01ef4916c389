-- The reply to what a command's code gave back: its own, or its refusal's number.
use Rattle.std.specs.Prelude.{List, ℕ, Result, Ok, Err}
use Rattle.machine.specs.Reply.{no, reply_of}
use Rattle.numbers.specs.Codes.{code_of}
use Rattle.numbers.specs.declared.answer.Refusal.{Refusal}

abbrev pub said : Result (List ℕ) Refusal → List ℕ
said (Ok reply) = reply
said (Err refusal) = reply_of (no (code_of refusal))
