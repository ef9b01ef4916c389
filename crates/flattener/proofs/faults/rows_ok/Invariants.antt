use mathlib.Core.Path.{◌≡◌}
use Prim.Native.Nat.{◌/◌}
use lib.ListN.{length}
use Rattle.ground.specs.Range.{every}
use Rattle.chart.specs.Chart.{rows_ok}
use Rattle.chart.specs.Held.{key_before, row_good}
use Rattle.flattener.proofs.faults.rows_ok.Given as goal

abbrev pub invariant-loop-i : goal.invariant-loop-i
invariant-loop-i l = (l.before ≡ key_before l.n l.chart l.i) × (every (row_good l.e l.n l.chart) l.i (length l.chart / 8) ≡ rows_ok l.e l.n l.chart)
