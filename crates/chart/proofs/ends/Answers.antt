use Rattle.bits.specs.Laws.{last_size}
use Rattle.bits.specs.Members.{width}
use Rattle.chart.proofs.ends.Goals as goal

pub returns : goal.returns
returns c = rw c.highest.ensures (last_size _ width _ c.ranges.w.fits)
