use lib.Seq.{get_or-drop}
use Rattle.chart.specs.Chart.{byte}
use Rattle.chart.proofs.read.field.Goals as goal

pub returns : goal.returns
unfolding byte
returns c = rw (c.byte_at.ensures, get_or-drop)
