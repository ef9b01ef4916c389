use mathlib.Core.Path.{◌≡◌, refl, ◌∙◌}
use native.Mathlib.Omega.{arith}
use Rattle.machine.specs.Aside.{defer_tests, defer}
use Rattle.machine.specs.Reply.{lowest}
use Rattle.mail.specs.View.{boxes_at, pushed_back}
use Rattle.state.proofs.Glue.{refused, doing}
use Rattle.state.specs.View.{told, state_of}
use Rattle.aside.proofs.Queues.{Deferrable, deferrable, set_aside_is}
use Rattle.aside.proofs.defer.Goals as goal
use Rattle.aside.proofs.defer.Goals.{In_ok-defer_refusal}

pub returns-in_err-defer_refusal : goal.returns-in_err-defer_refusal
unfolding defer defer_tests state_of
returns-in_err-defer_refusal c = λ z.
    refused _ z _ _ _ _ c.from_residual.ensures.1 (c.in_err-defer_refusal.ensures ∙ rw (c.is_open.ensures, c.is_timer.ensures, c.hand_of-event.ensures, c.aside-n.ensures) refl)

passed : (c : In_ok-defer_refusal) → 0 ≡ lowest (defer_tests c.args.spoilt c.args.q (state_of c.args.k.now))
unfolding defer_tests state_of
passed c = c.in_ok-defer_refusal.ensures ∙ rw (c.is_open.ensures, c.is_timer.ensures, c.hand_of-event.ensures, c.aside-n.ensures) refl

may : (c : In_ok-defer_refusal) → Deferrable (state_of c.args.k.now) c.args.q
may c = deferrable _ _ _ (passed c) c.requires

pub offset_bounds-k-q : goal.offset_bounds-k-q
offset_bounds-k-q c = let h = may (goal.at.offset_bounds-k-q c).In_ok-defer_refusal in omega arith

pub bounds-k-q : goal.bounds-k-q
bounds-k-q c = (may (goal.at.bounds-k-q c).In_ok-defer_refusal).side

pub push_back-requires : goal.push_back-requires
unfolding state_of
push_back-requires c = let h = rw boxes_at at (may (goal.at.push_back-requires c).In_ok-defer_refusal).free in omega arith

pub returns : goal.returns
unfolding defer told state_of
returns c = λ z.
    let allowed = (goal.at.returns c).In_ok-defer_refusal in
    let k = c.args.k.now in
    doing _ z _ _ _ _ (passed allowed)
    (rw (
      set_aside_is _ k.hand c.args.q (state_of k) refl (may allowed).block,
      pushed_back _ _ _ _ c.push_back.ensures,
      c.add.ensures.cells,
      c.add.ensures.marks,
      c.from.ensures,
      c.block_of.ensures,
      c.hand_of-event.ensures,
      c.done.ensures,
      c.aside-n.ensures,
    ) refl)
