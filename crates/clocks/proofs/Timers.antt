-- ARM, DISARM and TICK: what it says that none of their tests holds, and what TICK answers.
use mathlib.Core.Bool.{Bool}
use mathlib.Core.List.{List}
use mathlib.Core.Path.{◌≡◌, refl, sym}
use Prim.Native.Nat.{ℕ, ◌-◌, ◌<◌, ◌≤◌}
use native.Mathlib.Omega.{arith}
use Rattle.machine.proofs.Tests.{none_holds, within_high}
use Rattle.machine.specs.Clocks.{Ticked, arm_tests, disarm_tests, tick_done, ticked}
use Rattle.machine.specs.Inv.{Inv}
use Rattle.machine.specs.Numbers.{objects, timers}
use Rattle.machine.specs.Reply.{Areas, done, lowest, reply_of}
use Rattle.machine.specs.State.{State}
use Rattle.tick.specs.Timing.{Ready}
use Rattle.state.specs.View.{told, state_of}
use Rattle.state.specs.declared.Kernel.{Kernel}

pub arm_allowed : (spoilt : Bool) (t p g ticks : ℕ) (s : State) → 0 ≡ lowest (arm_tests spoilt t p g ticks s) → (t < timers) × (p ≤ objects)
unfolding arm_tests
arm_allowed spoilt t p g ticks s e =
    let h = none_holds (arm_tests spoilt t p g ticks s) refl (sym e) in
    let h0 = within_high 0 (timers - 1) t h.1.0 in
    (omega arith, within_high 1 objects p h.1.1.0)

pub disarm_allowed : (spoilt : Bool) (t : ℕ) → 0 ≡ lowest (disarm_tests spoilt t) → t < timers
unfolding disarm_tests
disarm_allowed spoilt t e =
    let h = none_holds (disarm_tests spoilt t) refl (sym e) in
    let h0 = within_high 0 (timers - 1) t h.1.0 in
    omega arith

-- TICK: the timers and depths of a kernel, and what it answers with what is left
pub ready_of : (k : Kernel) → Inv (state_of k) → Ready k.timers k.depths
unfolding state_of
ready_of k i = record { deep = i.mail.deep; timers = i.timers }

pub tick_answers : (k : Kernel) (reply : List ℕ) (z : Areas) (s : State) (f l : ℕ) (x : Ticked) → state_of k ≡ s → reply ≡ reply_of (done f l) → ticked s f l ≡ x →
    told k reply z ≡ tick_done x z
unfolding told tick_done
tick_answers k reply z s f l x e g h = rw (← h, e, g) refl
