use mathlib.Core.Path.{◌≡◌}
use Rattle.machine.specs.Charts.{slot_used}
use Rattle.machine.specs.Numbers.{objects}
use Rattle.state.specs.View.{state_of}
use Rattle.charts.proofs.slot_used.Given as goal

abbrev pub invariant-loop-i : goal.invariant-loop-i
invariant-loop-i l = slot_used (state_of l.k) l.q l.i ≡ slot_used (state_of l.k) l.q objects
