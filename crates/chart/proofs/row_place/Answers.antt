use native.Mathlib.Omega.{arith}
use Rattle.chart.specs.Flat.{place}
use Rattle.chart.proofs.row_place.Goals as goal

pub returns-in-Plain : goal.returns-in-Plain
returns-in-Plain c = rw c.in-Plain.is c.plain_place-at.ensures.0

pub returns-in-Guarded : goal.returns-in-Guarded
unfolding place
returns-in-Guarded c = rw c.in-Guarded.is (omega (arith, c.plain_place-at.ensures.0))
