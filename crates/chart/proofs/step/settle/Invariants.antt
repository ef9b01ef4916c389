use mathlib.Core.Path.{◌≡◌}
use Prim.Native.Nat.{◌-◌}
use Rattle.chart.specs.Held.{push_all, settled, settling}
use Rattle.chart.specs.Numbers.{levels}
use Rattle.chart.proofs.step.settle.Given as goal

abbrev pub invariant-loop-k : goal.invariant-loop-k
invariant-loop-k l =
    (settled (levels - l.k) l.chart l.next ≡ settled levels l.chart l.t) × (push_all l.acts (settling (levels - l.k) l.chart l.next) ≡ push_all l.initial.acts (settling levels l.chart l.t))
