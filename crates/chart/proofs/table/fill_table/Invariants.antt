use mathlib.Core.List.{◌++◌}
use mathlib.Core.Path.{◌≡◌}
use Prim.Native.Nat.{◌+◌, ◌*◌}
use lib.ListN.{length, drop}
use Rattle.chart.specs.Numbers.{row_size, slot_size}
use Rattle.chart.proofs.Rows.{rows_to}
use Rattle.chart.proofs.table.fill_table.Given as goal

abbrev pub invariant-loop-k : goal.invariant-loop-k
invariant-loop-k l =
    (length l.table ≡ slot_size l.fn.e) × (l.table ≡ rows_to l.fn.e l.chart l.k ++ drop (row_size * l.k + row_size) l.initial.table)
