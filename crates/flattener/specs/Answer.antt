-- The number of the flattener's answer: 0, the class of the chart's fault, or 5 if the slot has another length.
use Rattle.std.specs.Prelude.{Result, Ok, Err, ℕ}
use Rattle.chart.specs.Faults.{class}
use Rattle.flattener.specs.declared.FlattenError.{FlattenError}
use Rattle.flattener.specs.declared.FlattenError.TheVariants.{Chart, SlotLength}

abbrev pub answer_number : {T : Type 0} → Result T FlattenError → ℕ
answer_number (Ok _) = 0
answer_number (Err (Chart fault)) = class fault
answer_number (Err SlotLength) = 5
