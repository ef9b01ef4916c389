use mathlib.Core.Path.{◌≡◌}
use Prim.Native.Nat.{◌-◌}
use Rattle.chart.specs.Chart.{has, outward, path}
use Rattle.chart.specs.Held.{common}
use Rattle.chart.specs.Step.{first_of}
use Rattle.chart.specs.Numbers.{levels}
use Rattle.chart.proofs.step.find_common.Given as goal

abbrev pub invariant-loop-k : goal.invariant-loop-k
invariant-loop-k l = first_of (λ x. has x (outward l.chart l.t)) (path (levels - l.k) l.chart l.x) ≡ common l.chart l.s l.t
