use mathlib.Core.Path.{◌∙◌, sym}
use native.Mathlib.Omega.{arith}
use Rattle.chart.proofs.Accepted.{among_of, signal_of_lem}
use Rattle.chart.specs.Numbers.{Plain, most_states}
use Rattle.chart.proofs.table.note.Goals as goal

pub bounds-index-row_number : goal.bounds-index-row_number
bounds-index-row_number c =
    let s = among_of (most_states Plain) _ (sym c.is_among.ensures ∙ c.if-is_among.true) in
    let g = signal_of_lem _ (sym c.is_signal.ensures ∙ c.if-is_signal.true) in
    omega (arith, c.row_number.ensures.0)
