use borrow.Author.Rules.{rules}
use mathlib.Core.Bool.{cond, not, beq}
use mathlib.Core.Path.{◌≡◌, refl, ◌∙◌}
use Prim.Native.Nat.{◌≤◌}
use native.Mathlib.Omega.{arith}
use Rattle.chart.specs.Numbers.{last_signal}
use Rattle.machine.specs.Events.{subscribe_tests, wanting}
use Rattle.machine.specs.Numbers.{objects}
use Rattle.machine.specs.Reply.{lowest}
use Rattle.state.specs.View.{told, state_of}
use Rattle.state.proofs.Glue.{refused, doing}
use Rattle.subscriptions.proofs.Wants.{subscribe_allowed, news}
use Rattle.subscriptions.proofs.want.Goals as goal
use Rattle.subscriptions.proofs.want.Goals.{In_ok-subscribe_refusal}

pub returns-in_err-subscribe_refusal : goal.returns-in_err-subscribe_refusal
unfolding subscribe_tests
returns-in_err-subscribe_refusal c = λ z. refused _ z _ _ _ _ c.from_residual.ensures.1 (c.in_err-subscribe_refusal.ensures ∙ rw c.is_started.ensures refl)

none_holds : (c : In_ok-subscribe_refusal) → 0 ≡ lowest (subscribe_tests c.args.spoilt c.args.p c.args.g (state_of c.args.k.now))
unfolding subscribe_tests
none_holds c = c.in_ok-subscribe_refusal.ensures ∙ rw c.is_started.ensures refl

allowed : (c : In_ok-subscribe_refusal) → (1 ≤ c.args.p) × (c.args.p ≤ objects) × (c.args.g ≤ last_signal)
allowed c = subscribe_allowed _ _ _ _ (none_holds c)

pub subscribes-was-requires : goal.subscribes-was-requires
subscribes-was-requires c = let h = allowed c in (h.0, h.1, omega (arith, h.2))

pub overflow_sub-k : goal.overflow_sub-k
overflow_sub-k c = (allowed (goal.at.overflow_sub-k c).In_ok-subscribe_refusal).0

pub overflow_mul-k : goal.overflow_mul-k
overflow_mul-k c = let h = allowed (goal.at.overflow_mul-k c).In_ok-subscribe_refusal in omega (arith, h.1)

pub overflow_add-k : goal.overflow_add-k
overflow_add-k c = let h = allowed (goal.at.overflow_add-k c).In_ok-subscribe_refusal in omega (arith, h.1, h.2)

pub bounds-k-p : goal.bounds-k-p
bounds-k-p c = let h = allowed (goal.at.bounds-k-p c).In_ok-subscribe_refusal in omega (arith, h.1, h.2)

pub returns : goal.returns
unfolding told state_of wanting
returns c =
    let w : c.from.result ≡ cond c.args.wanted 1 0 = search rules in
    let n : c.from-2.result ≡ cond (not (beq c.args.wanted c.subscribes-was.result)) 1 0 = search rules in
    λ z. doing _ z _ _ _ _ (none_holds (goal.at.returns c).In_ok-subscribe_refusal)
    (rw (c.done.ensures, w, n, news, c.subscribes-was.ensures) refl)
