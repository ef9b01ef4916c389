use mathlib.Core.Path.{◌≡◌, refl, sym, ◌∙◌}
use native.Mathlib.Omega.{arith}
use Rattle.machine.specs.Aside.{recall, recall_tests, recalled}
use Rattle.machine.specs.Reply.{lowest}
use Rattle.mail.specs.View.{boxes_at, pushed_front, front_taken}
use Rattle.state.proofs.Glue.{refused, doing}
use Rattle.state.specs.View.{told, state_of}
use Rattle.aside.proofs.Queues.{Recallable, recallable, recall_none, recall_some}
use Rattle.aside.proofs.recall.Goals as goal
use Rattle.aside.proofs.recall.Goals.{In_ok-recall_refusal, Else-n-eq0}

pub returns-in_err-recall_refusal : goal.returns-in_err-recall_refusal
unfolding recall recall_tests
returns-in_err-recall_refusal c = λ z.
    refused _ z _ _ _ _ c.from_residual.ensures.1 (c.in_err-recall_refusal.ensures ∙ rw (c.is_started.ensures, c.room.ensures, c.aside-n.ensures) refl)

passed : (c : In_ok-recall_refusal) → 0 ≡ lowest (recall_tests c.args.spoilt c.args.q c.args.p (state_of c.args.k.now))
unfolding recall_tests
passed c = c.in_ok-recall_refusal.ensures ∙ rw (c.is_started.ensures, c.room.ensures, c.aside-n.ensures) refl

may : (c : Else-n-eq0) → Recallable (state_of c.args.k.now) c.args.q c.args.p
may c = recallable _ _ _ _ (passed c.before) c.requires (λ e. c.if-n-eq0.false (c.aside-n.ensures ∙ e))

pub returns-then-n-eq0 : goal.returns-then-n-eq0
unfolding recall told
returns-then-n-eq0 c = λ z.
    doing _ z _ _ _ _ (passed (goal.at.returns-then-n-eq0 c).In_ok-recall_refusal)
    (rw c.done.ensures (sym (recall_none _ _ _ _ z (sym c.aside-n.ensures ∙ c.if-n-eq0.true))))

pub take_front-oldest-requires : goal.take_front-oldest-requires
unfolding state_of
take_front-oldest-requires c = let e = rw boxes_at at c.aside-n.ensures in omega (arith, c.if-n-eq0.false)

pub overflow_sub-p : goal.overflow_sub-p
overflow_sub-p c = (may (goal.at.overflow_sub-p c).Else-n-eq0).low

pub offset_bounds-k-p : goal.offset_bounds-k-p
offset_bounds-k-p c = let h = may (goal.at.offset_bounds-k-p c).Else-n-eq0 in omega arith

pub bounds-k-p : goal.bounds-k-p
bounds-k-p c = let h = may (goal.at.bounds-k-p c).Else-n-eq0 in omega arith

pub push_front-requires : goal.push_front-requires
unfolding state_of
push_front-requires c = rw boxes_at at (may (goal.at.push_front-requires c).Else-n-eq0).free

pub returns : goal.returns
unfolding recall recalled told state_of
returns c = λ z.
    let k = c.args.k.now in
    let took = c.take_front-oldest.ensures in
    doing _ z _ _ _ _ (passed (goal.at.returns c).In_ok-recall_refusal)
    (rw (pushed_front k.mail _ _ _ c.push_front.ensures, front_taken k.sides c.args.q _ took.left, took.value, ← boxes_at k.sides c.args.q, c.done-2.ensures)
    (sym (recall_some _ _ _ _ z (λ e. c.if-n-eq0.false (c.aside-n.ensures ∙ e)))))
