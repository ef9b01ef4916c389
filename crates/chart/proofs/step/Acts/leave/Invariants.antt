use mathlib.Core.Path.{◌≡◌}
use Prim.Native.Nat.{◌-◌}
use Rattle.chart.specs.Chart.{path}
use Rattle.chart.specs.Held.{push_all}
use Rattle.chart.specs.Step.{leave, up_to}
use Rattle.chart.specs.Numbers.{levels}
use Rattle.chart.proofs.step.Acts.leave.Given as goal

abbrev pub invariant-loop-k : goal.invariant-loop-k
invariant-loop-k l =
    push_all l.self (leave l.chart (up_to l.l (path (levels - l.k) l.chart l.x))) ≡ push_all l.initial.self (leave l.chart (up_to l.l (path levels l.chart l.s)))
