-- The number that a reply has for what a row of tests answers: 0 where none refused.
use Rattle.std.specs.Prelude.{ℕ, Result, Ok, Err}
use Rattle.numbers.specs.Codes.{code_of}
use Rattle.numbers.specs.declared.answer.Refusal.{Refusal}

abbrev pub answer_number : {T : Type 0} → Result T Refusal → ℕ
answer_number (Ok x) = 0
answer_number (Err refusal) = code_of refusal
