use mathlib.Core.Bool.{◌&&◌}
use mathlib.Core.Path.{◌≡◌}
use Prim.Native.Nat.{◌/◌}
use lib.ListN.{length}
use Rattle.ground.specs.Range.{every}
use Rattle.chart.specs.Chart.{forms_ok, among}
use Rattle.chart.specs.Held.{form_at}
use Rattle.chart.specs.Numbers.{most_states}
use Rattle.flattener.proofs.faults.forms_ok.Given as goal

abbrev pub invariant-loop-i : goal.invariant-loop-i
invariant-loop-i l = (every (form_at l.e l.n l.chart) l.i (length l.chart / 8) && among (most_states l.e) l.n) ≡ forms_ok l.e l.n l.chart
