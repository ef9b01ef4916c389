use native.Mathlib.Omega.{arith}
use Rattle.chart.specs.Flat.{place}
use Rattle.chart.proofs.plain_place.Goals as goal

pub returns : goal.returns
unfolding place
returns c = (omega arith, omega arith, omega arith)
