use mathlib.Core.Path.{◌≡◌, sym, ◌∙◌}
use Rattle.chart.specs.Chart.{byte}
use Rattle.chart.proofs.Steps.{does_internal, does-moved}
use Rattle.chart.proofs.table.row_does.Goals as goal

pub returns-then-field-ne0 : goal.returns-then-field-ne0
returns-then-field-ne0 c =
    let from = c.args in
    let z : byte from.chart.now from.i 3 ≡ 0 → ⊥ = λ q. c.if-field-ne0.true (c.field.ensures ∙ q) in
    rw (c.move_to.ensures, c.field-then-field-ne0.ensures, c.field-action.ensures)
    (does-moved from.chart.now from.x from.s from.i z)

pub returns : goal.returns
returns c =
    let from = c.args in
    let z = sym c.field.ensures ∙ c.if-field-ne0.false in
    rw (c.push.ensures, c.none-acts.ensures, c.field-action.ensures)
    (does_internal from.chart.now from.x from.s from.i z)
