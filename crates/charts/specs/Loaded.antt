-- The reply to what LOAD's code gave back: its own, its refusal's number, or its chart's fault.
use Rattle.std.specs.Prelude.{List, ℕ, Result, Ok, Err}
use Rattle.chart.specs.Faults.{class}
use Rattle.charts.specs.declared.LoadError.{LoadError}
use Rattle.charts.specs.declared.LoadError.TheVariants.{Chart, Refused}
use Rattle.machine.specs.Reply.{bad_chart, no, reply_of}
use Rattle.numbers.specs.Codes.{code_of}

abbrev pub load_reply : Result (List ℕ) LoadError → List ℕ
load_reply (Ok reply) = reply
load_reply (Err (Refused refusal)) = reply_of (no (code_of refusal))
load_reply (Err (Chart fault)) = reply_of (bad_chart (class fault))
