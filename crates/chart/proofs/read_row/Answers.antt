use mathlib.Core.Path.{sym, ◌∙◌}
use Rattle.chart.proofs.Found.{one-taken, one-unsound, row_cut}
use Rattle.chart.proofs.read_row.Goals as goal

pub returns-then-sound : goal.returns-then-sound
returns-then-sound c =
    let from = c.args in
    λ is_up. sym (one-taken is_up from.table.now from.at _ (row_cut from.table.now from.at) (sym c.sound.ensures ∙ c.if-sound.true))

pub returns-else-sound : goal.returns-else-sound
returns-else-sound c =
    let from = c.args in
    λ is_up. sym (one-unsound is_up from.table.now from.at _ (row_cut from.table.now from.at) (sym c.sound.ensures ∙ c.if-sound.false))
