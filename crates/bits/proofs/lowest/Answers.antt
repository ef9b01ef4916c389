use mathlib.Core.Path.{sym}
use Rattle.bits.specs.Members.{members}
use Rattle.ground.specs.Search.{first_end}
use Rattle.bits.proofs.Bounds.{count-needs}
use Rattle.bits.proofs.Ranges.{lowest-is}
use Rattle.bits.proofs.lowest.Goals as goal

pub returns-then-to-from : goal.returns-then-to-from
returns-then-to-from c = sym (first_end (members _) _ _ c.if-to-from.true)

pub overflow_cast-result : goal.overflow_cast-result
overflow_cast-result c = search count-needs

pub overflow_sub-result : goal.overflow_sub-result
overflow_sub-result c = search count-needs

pub overflow_sub-result-2 : goal.overflow_sub-result-2
overflow_sub-result-2 c = rw c.range.ensures (lowest-is _ _ _ c.if-to-from.false c.requires).0

pub returns : goal.returns
returns c = rw c.range.ensures (lowest-is _ _ _ c.if-to-from.false c.requires).1
