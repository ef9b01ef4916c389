use mathlib.Core.Path.{sym, ◌∙◌}
use native.Mathlib.Omega.{arith}
use Rattle.chart.proofs.Accepted.{at_most, few}
use Rattle.chart.proofs.Laws.{states_le}
use Rattle.flattener.proofs.faults.check.Goals as goal

pub tree_ok-requires : goal.tree_ok-requires
tree_ok-requires c =
    let d = c.args.chart.now in
    let e = c.args.e in
    let n = c.state_count-n.result in
    let q = sym c.forms_ok.ensures ∙ c.if-not-forms_ok.false in
    omega (arith, few e n d q, at_most e n d q, states_le d, c.state_count-n.ensures)

pub rows_ok-requires : goal.rows_ok-requires
rows_ok-requires c =
    at_most c.args.e c.state_count-n.result c.args.chart.now (sym c.forms_ok.ensures ∙ c.if-not-forms_ok.false)
