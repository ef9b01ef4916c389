use mathlib.Core.Path.{◌≡◌}
use Rattle.chart.specs.Held.{index_from}
use Rattle.chart.proofs.table.index_rows.Given as goal

abbrev pub invariant-loop-i : goal.invariant-loop-i
invariant-loop-i l = l.index ≡ index_from l.chart l.i
