use mathlib.Core.Path.{◌≡◌, refl}
use Prim.Native.Nat.{◌-◌}
use native.Mathlib.Omega.{arith}
use Rattle.ground.specs.Range.{count_from}
use Rattle.bits.proofs.Bounds.{count-needs}
use Rattle.bits.proofs.Ranges.{count-is}
use Rattle.bits.proofs.count.Goals as goal

pub returns-then-to-from : goal.returns-then-to-from
unfolding count_from
returns-then-to-from c = let z : c.args.to - c.args.from ≡ 0 = omega arith in rw z refl

pub overflow_cast-result : goal.overflow_cast-result
overflow_cast-result c = search count-needs

pub returns : goal.returns
returns c = rw c.range.ensures (count-is _ _ _ c.if-to-from.false c.requires)
