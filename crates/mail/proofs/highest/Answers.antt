use mathlib.Core.Bool.{Bool, cond}
use mathlib.Core.List.{List}
use mathlib.Core.Path.{◌≡◌, refl, sym, ◌∙◌}
use Prim.Native.Nat.{ℕ, zero, suc, ◌-◌, ◌<◌}
use native.Mathlib.Nat.{not-suc-le-zero}
use native.Mathlib.Omega.{arith}
use lib.Dec.{eqb}
use lib.ListN.{length}
use Rattle.mail.specs.Box.{box_at, highest_of}
use Rattle.mail.specs.View.{boxes, boxes-length, boxes_at}
use Rattle.mail.proofs.highest.Goals as goal
use Rattle.mail.proofs.highest.Goals.{After-is_empty}

step : (bs : List (List ℕ)) (p : ℕ) → 0 < p → highest_of bs p ≡ cond (eqb (length (box_at bs (p - 1))) 0) (highest_of bs (p - 1)) p
unfolding highest_of
step bs zero l = absurd (not-suc-le-zero l)
step bs (suc n) l = let z : suc n - 1 ≡ n = omega arith in rw z refl

-- one turn: whether the object has mail
turn : (c : After-is_empty) (t : Bool) → c.is_empty.result ≡ t →
    highest_of (boxes c.args.rings.now) c.loop-p.p ≡ cond t (highest_of (boxes c.args.rings.now) (c.loop-p.p - 1)) c.loop-p.p
turn c t e = step _ _ c.loop-p-test.true ∙ rw (boxes_at _ (c.loop-p.p - 1), ← c.is_empty.ensures, e) refl

pub loop-p-init : goal.loop-p-init
loop-p-init c = rw boxes-length refl

pub returns-then-not-is_empty-clause-is : goal.returns-then-not-is_empty-clause-is
returns-then-not-is_empty-clause-is c = sym (turn (goal.at.returns-then-not-is_empty-clause-is c).After-is_empty _ c.if-not-is_empty.true) ∙ c.loop-p.invariant

pub loop-p-preserved : goal.loop-p-preserved
loop-p-preserved c = sym (turn (goal.at.loop-p-preserved c).After-is_empty _ c.if-not-is_empty.false) ∙ c.loop-p.invariant

pub returns-clause-is : goal.returns-clause-is
unfolding highest_of
returns-clause-is c =
    let z : c.loop-p.p ≡ 0 = omega arith in
    rw z at c.loop-p.invariant
