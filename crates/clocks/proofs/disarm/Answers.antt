use borrow.Author.Rules.{rules}
use mathlib.Core.Bool.{cond}
use mathlib.Core.Path.{◌≡◌, refl}
use Prim.Native.Nat.{◌<◌}
use native.Mathlib.Omega.{arith}
use Rattle.machine.specs.Clocks.{disarm, disarm_tests, with_counter}
use Rattle.machine.specs.Numbers.{timers}
use Rattle.machine.specs.Reply.{lowest}
use Rattle.state.specs.View.{told, state_of}
use Rattle.state.proofs.Glue.{refused, doing}
use Rattle.tick.specs.Timers.{timers_counted}
use Rattle.clocks.proofs.Timers.{disarm_allowed}
use Rattle.clocks.proofs.disarm.Goals as goal
use Rattle.clocks.proofs.disarm.Goals.{In_ok-disarm_refusal}

pub returns-in_err-disarm_refusal : goal.returns-in_err-disarm_refusal
unfolding disarm disarm_tests
returns-in_err-disarm_refusal c = λ z. refused _ z _ _ _ _ c.from_residual.ensures.1 c.in_err-disarm_refusal.ensures

none_holds : (c : In_ok-disarm_refusal) → 0 ≡ lowest (disarm_tests c.args.spoilt c.args.t)
unfolding disarm_tests
none_holds c = c.in_ok-disarm_refusal.ensures

allowed : (c : In_ok-disarm_refusal) → c.args.t < timers
allowed c = disarm_allowed _ _ (none_holds c)

pub offset_bounds-k-t : goal.offset_bounds-k-t
offset_bounds-k-t c = let h = allowed (goal.at.offset_bounds-k-t c).In_ok-disarm_refusal in omega (arith, h)

pub bounds-k-t : goal.bounds-k-t
bounds-k-t c = allowed (goal.at.bounds-k-t c).In_ok-disarm_refusal

pub returns : goal.returns
unfolding disarm told state_of with_counter
returns c =
    let v : c.from.result ≡ cond c.is_armed-armed.result 1 0 = search rules in
    λ z. doing _ z _ _ _ _ (none_holds (goal.at.returns c).In_ok-disarm_refusal) (rw (timers_counted, c.done.ensures, v, c.is_armed-armed.ensures) refl)
