use mathlib.Core.Path.{◌≡◌}
use Rattle.machine.specs.Events.{full_receiver}
use Rattle.machine.specs.Numbers.{objects}
use Rattle.machine.specs.State.{State}
use Rattle.publish.specs.Arrays.{Reads}
use Rattle.publish.proofs.any_full.Given as goal

-- Whether one is full is said by the first p objects.
abbrev pub invariant-loop-p : goal.invariant-loop-p
invariant-loop-p l = (s : State) → Reads s l.wants l.depths l.mail → full_receiver s l.g l.p ≡ full_receiver s l.g objects
