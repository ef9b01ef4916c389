use mathlib.Core.Path.{◌≡◌}
use Prim.Native.Nat.{◌-◌}
use Rattle.ground.specs.Range.{first_from}
use Rattle.chart.specs.Chart.{states}
use Rattle.chart.specs.Held.{not_state}
use Rattle.chart.proofs.read.state_count.Given as goal

abbrev pub invariant-loop-i : goal.invariant-loop-i
invariant-loop-i l = first_from (not_state l.chart) l.i (l.records - l.i) - 1 ≡ states l.chart
