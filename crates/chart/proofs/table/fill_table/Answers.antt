use borrow.Rule.Slice.PartMut.{same_len_mid}
use mathlib.Core.Path.{◌≡◌, ap, ◌∙◌}
use Prim.Native.Nat.{◌-◌, ◌+◌, ◌*◌}
use native.Mathlib.Omega.{arith}
use lib.ListN.{length, drop}
use Rattle.chart.specs.Held.{row_bytes}
use Rattle.chart.specs.Numbers.{row_size}
use Rattle.chart.specs.Step.{start}
use Rattle.chart.proofs.Accepted.{accepted, start_good}
use Rattle.chart.proofs.Rows.{row_same, first_row, row-turn, rows_done}
use Rattle.chart.proofs.table.fill_table.Goals as goal

pub loop-k-init : goal.loop-k-init
loop-k-init c =
    let d = c.args.chart.now in
    let w = c.write_row in
    let good = start_good d (accepted c.args.e d c.requires.0) in
    let first = ap (λ o. row_bytes (record { flag = 0; out = o })) c.start_of.ensures ∙ row_same 0 (start d) good.few good.outcome in
    (w.auto.part ∙ c.requires.1, first_row c.args.e d w.new.part (drop row_size c.args.table.now) (rw (← first) w.ensures))

pub row_no-row-requires : goal.row_no-row-requires
row_no-row-requires c =
    let rows = c.row_count-k-end.ensures in
    omega (arith, c.loop-k-test.true, rows.0, rows.1)

pub loop-k-preserved : goal.loop-k-preserved
loop-k-preserved c =
    let from = c.args in
    let at = c.loop-k in
    let k = at.k in
    let w = c.write_row-in-loop-k in (
      same_len_mid (row_size * k + row_size) (length at.table - (row_size * k + row_size)) at.table w.new.part w.auto.part ∙ at.invariant.0,
      rw w.ensures (row-turn from.e from.chart.now k c.write_row.new.part at.table _ (rw (c.new-indexed.ensures.0, c.new-indexed.ensures.1) at c.row_no-row.ensures) at.invariant.1),
    )

pub returns : goal.returns
returns c =
    let at = c.loop-k in
    let w = c.write_row in
    let q : at.k ≡ c.row_count-k-end.result = omega (arith, at.auto.k-end, c.loop-k-test.false) in
    rows_done c.args.e c.args.chart.now at.k w.new.part at.table (q ∙ c.row_count-k-end.ensures.0) (w.auto.part ∙ c.requires.1) at.invariant.1
