use mathlib.Core.Path.{◌≡◌, sym, ◌∙◌}
use native.Mathlib.Nat.{add-zero}
use native.Mathlib.Omega.{arith}
use Rattle.mail.specs.View.{boxes_at, pushed_back}
use Rattle.publish.proofs.Turns.{left_all, left_fewer, left_none}
use Rattle.publish.proofs.post_to_all.Goals as goal
use Rattle.publish.proofs.post_to_all.Goals.{then-subscribes, else-subscribes}

pub loop-p-init : goal.loop-p-init
loop-p-init c = left_all _ _ _ _ c.requires.2

pub push_back-requires : goal.push_back-requires
push_back-requires c =
    let l = c.loop-p in
    rw boxes_at at (l.invariant.places l.p c.loop-p-test.true (omega arith) (sym c.subscribes.ensures ∙ c.if-subscribes.true))

pub loop-p-preserved : goal.loop-p-preserved
loop-p-preserved c =
    let l = c.loop-p in
    let left = left_fewer _ _ _ _ _ _ l.p c.loop-p-test.true l.invariant c.subscribes.result c.subscribes.ensures in
    elim c.if-subscribes.branch [
      | then-subscribes w ↦ rw (w.n-is, w.mail-is, pushed_back _ _ _ _ (rw w.entry_of.ensures at w.push_back.ensures)) (rw w.if-subscribes.true at left)
      | else-subscribes w ↦ rw (w.n-is, w.mail-is) (rw (w.if-subscribes.false, add-zero) at left)
    ]

pub returns-clause-number : goal.returns-clause-number
returns-clause-number c = let z : c.loop-p.p ≡ 0 = omega arith in λ s e. (left_none _ _ _ _ _ _ (rw z at c.loop-p.invariant) s e).0

pub returns-clause-posts : goal.returns-clause-posts
returns-clause-posts c = let z : c.loop-p.p ≡ 0 = omega arith in λ s e. (left_none _ _ _ _ _ _ (rw z at c.loop-p.invariant) s e).1
