use mathlib.Core.Path.{sym, ◌∙◌}
use Rattle.chart.proofs.Index.{row_made}
use Rattle.chart.proofs.Rows.{out_none}
use Rattle.chart.proofs.table.IndexedChart.row_out.Goals as goal

pub returns-then-s-eq0 : goal.returns-then-s-eq0
returns-then-s-eq0 c =
    let from = c.args in
    c.behind.ensures ∙ sym (out_none from.self.now.chart.now from.x from.g _ from.i (sym c.find_holder-s.ensures.0 ∙ c.if-s-eq0.true))

pub returns : goal.returns
returns c =
    let s = c.find_holder-s in
    let row = c.row_of-row in
    let self = c.args.self.now in
    row_made self.edition self.chart.now self.good c.args.x c.requires.0 c.requires.1 c.args.g _ c.args.i s.result row.result _ _ s.ensures.0 c.if-s-eq0.false row.ensures.0 c.field.ensures c.row_does.ensures
