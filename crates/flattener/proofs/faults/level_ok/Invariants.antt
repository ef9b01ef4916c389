use mathlib.Core.Path.{◌≡◌}
use Prim.Native.Nat.{◌-◌}
use Rattle.chart.specs.Held.{up}
use Rattle.chart.specs.Numbers.{levels}
use Rattle.flattener.proofs.faults.level_ok.Given as goal

abbrev pub invariant-loop-k : goal.invariant-loop-k
invariant-loop-k l = up (levels - l.k) l.chart l.t ≡ up levels l.chart l.s
