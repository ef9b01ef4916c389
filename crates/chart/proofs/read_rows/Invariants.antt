use mathlib.Core.Path.{◌≡◌}
use Prim.Native.Nat.{◌-◌, ◌+◌, ◌*◌}
use Rattle.chart.specs.Flags.{in_words}
use Rattle.chart.specs.Held.{reading}
use Rattle.chart.specs.Numbers.{Guarded, each, row_size}
use Rattle.chart.proofs.read_rows.Given as goal

abbrev pub invariant-loop-i : goal.invariant-loop-i
invariant-loop-i l =
    reading Guarded (in_words l.flags l.p) l.table (l.at + row_size * l.i) (each Guarded - l.i) ≡ reading Guarded (in_words l.flags l.p) l.table l.at (each Guarded)
