-- The class of a fault, and that of the answer of a check: 0 for a good chart.
use Rattle.std.specs.Prelude.{Result, Ok, Err, ℕ}
use Rattle.chart.specs.declared.faults.Fault.{Fault}
use Rattle.chart.specs.declared.faults.Fault.TheVariants.{Length, Form, Tree, Rows}

abbrev pub class : Fault → ℕ
class Length = 1
class Form = 2
class Tree = 3
class Rows = 4

abbrev pub answer_class : {T : Type 0} → Result T Fault → ℕ
answer_class (Ok _) = 0
answer_class (Err fault) = class fault
