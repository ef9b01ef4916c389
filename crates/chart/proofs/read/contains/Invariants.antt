use mathlib.Core.Path.{◌≡◌}
use Prim.Native.Nat.{◌-◌}
use Rattle.chart.specs.Chart.{has, path}
use Rattle.chart.specs.Numbers.{levels}
use Rattle.chart.proofs.read.contains.Given as goal

abbrev pub invariant-loop-k : goal.invariant-loop-k
invariant-loop-k l = has l.x (path (levels - l.k) l.chart l.t) ≡ has l.x (path levels l.chart l.s)
