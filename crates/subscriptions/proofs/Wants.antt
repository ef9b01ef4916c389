-- SUBSCRIBE and UNSUBSCRIBE: what it says that none of their tests holds.
use mathlib.Core.Bool.{Bool, true, false, beq, cond, not}
use mathlib.Core.Path.{◌≡◌, refl, sym}
use Prim.Native.Nat.{ℕ, ◌≤◌}
use Rattle.chart.specs.Numbers.{first_signal, last_signal}
use Rattle.machine.proofs.Tests.{none_holds, within_low, within_high}
use Rattle.machine.specs.Events.{subscribe_tests}
use Rattle.machine.specs.Numbers.{objects}
use Rattle.machine.specs.Reply.{lowest}
use Rattle.machine.specs.State.{State}

pub subscribe_allowed : (spoilt : Bool) (p g : ℕ) (s : State) → 0 ≡ lowest (subscribe_tests spoilt p g s) → (1 ≤ p) × (p ≤ objects) × (g ≤ last_signal)
unfolding subscribe_tests
subscribe_allowed spoilt p g s e =
    let h = none_holds (subscribe_tests spoilt p g s) refl (sym e) in
    (within_low 1 objects p h.1.0, within_high 1 objects p h.1.0, within_high first_signal last_signal g h.1.1.0)

-- it is news where what is wanted was not so
pub news : (wanted was : Bool) → not (beq wanted was) ≡ cond wanted (not was) was
news true true = refl
news true false = refl
news false true = refl
news false false = refl
