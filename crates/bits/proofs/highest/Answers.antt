use Rattle.bits.specs.Members.{width}
use Rattle.bits.proofs.Bounds.{count-needs}
use Rattle.bits.proofs.Last.{highest-is}
use Rattle.bits.proofs.highest.Goals as goal

pub overflow_cast-result : goal.overflow_cast-result
overflow_cast-result c = search count-needs

pub overflow_sub-result : goal.overflow_sub-result
overflow_sub-result c = search count-needs

pub returns : goal.returns
returns c = highest-is _ width c.ranges.w.fits
