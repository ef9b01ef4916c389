use mathlib.Core.Path.{◌≡◌, refl, ◌∙◌}
use Prim.Native.Nat.{◌<◌, ◌≤◌}
use native.Mathlib.Omega.{arith}
use Rattle.machine.specs.Clocks.{arm, arm_tests, armed_with}
use Rattle.machine.specs.Numbers.{objects, timers}
use Rattle.machine.specs.Reply.{lowest}
use Rattle.state.specs.View.{told, state_of}
use Rattle.state.proofs.Glue.{refused, doing}
use Rattle.tick.specs.Timers.{timers_set}
use Rattle.clocks.proofs.Timers.{arm_allowed}
use Rattle.clocks.proofs.arm.Goals as goal
use Rattle.clocks.proofs.arm.Goals.{In_ok-arm_refusal}

pub returns-in_err-arm_refusal : goal.returns-in_err-arm_refusal
unfolding arm arm_tests
returns-in_err-arm_refusal c = λ z. refused _ z _ _ _ _ c.from_residual.ensures.1 (c.in_err-arm_refusal.ensures ∙ rw (c.from.ensures, c.from-2.ensures, c.is_started.ensures, c.is_armed.ensures) refl)

none_holds : (c : In_ok-arm_refusal) → let a = c.args in 0 ≡ lowest (arm_tests a.spoilt a.t a.p a.g a.ticks (state_of a.k.now))
unfolding arm_tests
none_holds c = c.in_ok-arm_refusal.ensures ∙ rw (c.from.ensures, c.from-2.ensures, c.is_started.ensures, c.is_armed.ensures) refl

allowed : (c : In_ok-arm_refusal) → (c.args.t < timers) × (c.args.p ≤ objects)
allowed c = arm_allowed _ _ _ _ _ _ (none_holds c)

pub overflow_cast-k : goal.overflow_cast-k
overflow_cast-k c = let h = allowed (goal.at.overflow_cast-k c).In_ok-arm_refusal in omega (arith, h.1)

pub offset_bounds-k-t : goal.offset_bounds-k-t
offset_bounds-k-t c = let h = allowed (goal.at.offset_bounds-k-t c).In_ok-arm_refusal in omega (arith, h.0)

pub bounds-k-t : goal.bounds-k-t
bounds-k-t c = (allowed (goal.at.bounds-k-t c).In_ok-arm_refusal).0

pub returns : goal.returns
unfolding arm told state_of armed_with
returns c = λ z. doing _ z _ _ _ _ (none_holds (goal.at.returns c).In_ok-arm_refusal) (rw (timers_set, c.done.ensures) refl)
