use mathlib.Core.Path.{◌∙◌}
use native.Mathlib.Omega.{arith}
use Rattle.chart.proofs.Index.{few_states}
use Rattle.chart.proofs.Rows.{no_absent, no_there}
use Rattle.chart.proofs.table.IndexedChart.row_no.Goals as goal

pub overflow_cast-s : goal.overflow_cast-s
overflow_cast-s c =
    let self = c.args.self.now in
    let few = few_states self.edition self.chart.now self.good in
    omega (arith, self.counted, c.if-s-self.true)

pub row_out-requires : goal.row_out-requires
row_out-requires c =
    let g = c.signal_at.ensures in
    (c.state_at-s.ensures.1, omega (arith, c.args.self.now.counted, c.if-s-self.true), g.1, g.2)

pub returns-then-s-self : goal.returns-then-s-self
returns-then-s-self c =
    let self = c.args.self.now in
    c.row_out.ensures
    ∙ no_there self.edition self.chart.now c.args.k _ c.state_at-s.ensures.0 _ _ c.signal_at.ensures.0 c.which_at.ensures
    (omega (arith, self.counted, c.if-s-self.true))

pub returns : goal.returns
returns c =
    let self = c.args.self.now in
    c.still.ensures ∙ no_absent self.edition self.chart.now c.args.k _ c.state_at-s.ensures.0 (omega (arith, self.counted, c.if-s-self.false))
