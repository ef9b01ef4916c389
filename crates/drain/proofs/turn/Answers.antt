use borrow.Author.Tests.{eqb-true}
use mathlib.Core.Path.{refl}
use Prim.Native.Nat.{◌-◌}
use Rattle.mail.specs.View.{boxes_at}
use Rattle.drain.proofs.turn.Goals as goal

-- An object without mail takes no step.
pub returns-then-is_empty : goal.returns-then-is_empty
returns-then-is_empty c =
    let r = c.requires in
    let none = rw (c.is_empty.ensures, ← boxes_at c.args.mail.now (c.args.p - 1)) at c.if-is_empty.true in
    record { sized = r.sized; within = r.within; fit = r.fit; above = r.above; same = refl; ended = λ ne. absurd (ne (eqb-true _ _ none)) }
