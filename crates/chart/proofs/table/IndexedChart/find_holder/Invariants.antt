use mathlib.Core.Path.{◌≡◌}
use Prim.Native.Nat.{◌-◌, ◌≤◌}
use Rattle.chart.specs.Chart.{path, states}
use Rattle.chart.specs.Held.{nth_out}
use Rattle.chart.specs.Numbers.{levels}
use Rattle.chart.proofs.table.IndexedChart.find_holder.Given as goal

abbrev pub invariant-loop-k : goal.invariant-loop-k
invariant-loop-k l =
    let d = l.self.chart.now in
    (nth_out d l.g l.left (path (levels - l.k) d l.holder) ≡ nth_out d l.g l.i (path levels d l.s)) × (l.holder ≤ states d)
