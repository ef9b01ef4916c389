use mathlib.Core.Path.{◌≡◌}
use Prim.Native.Nat.{◌+◌}
use Rattle.ground.specs.Range.{every}
use Rattle.chart.specs.Chart.{tree_ok}
use Rattle.chart.specs.Held.{state_at}
use Rattle.flattener.proofs.faults.tree_ok.Given as goal

abbrev pub invariant-loop-s : goal.invariant-loop-s
invariant-loop-s l = every (state_at l.n l.chart) l.s (l.n + 1) ≡ tree_ok l.n l.chart
