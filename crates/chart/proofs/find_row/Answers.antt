use mathlib.Core.Path.{ap, ◌∙◌}
use native.Mathlib.Omega.{arith}
use Rattle.chart.specs.Flags.{in_words}
use Rattle.chart.specs.Held.{reading}
use Rattle.chart.specs.Numbers.{Guarded, Plain, each}
use Rattle.chart.proofs.find_row.Goals as goal

pub read_row-requires : goal.read_row-requires
read_row-requires c =
    let long = rw c.in-Plain.is at c.requires.3 in
    omega (arith, c.row_place.ensures, long)

pub read_rows-requires : goal.read_rows-requires
read_rows-requires c =
    let pre = c.requires in
    let long = rw c.in-Guarded.is at pre.3 in
    (pre.2, omega (arith, c.row_place-in-Guarded.ensures, long))

pub returns-in-Plain : goal.returns-in-Plain
returns-in-Plain c =
    let from = c.args in
    let is_up = in_words from.flags.now from.p in
    rw c.in-Plain.is
    (c.read_row.ensures is_up ∙ ap (λ at. reading Plain is_up from.table.now at (each Plain)) c.row_place.ensures)

pub returns-in-Guarded : goal.returns-in-Guarded
returns-in-Guarded c =
    let from = c.args in
    rw c.in-Guarded.is
    (c.read_rows.ensures ∙ ap (λ at. reading Guarded (in_words from.flags.now from.p) from.table.now at (each Guarded)) c.row_place-in-Guarded.ensures)
