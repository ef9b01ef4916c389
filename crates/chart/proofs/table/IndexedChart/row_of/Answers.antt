use borrow.Author.Rules.{rules}
use native.Mathlib.Omega.{arith}
use Rattle.chart.proofs.Index.{few_states, row-found}
use Rattle.chart.proofs.table.IndexedChart.row_of.Goals as goal

pub bounds-self-row_number : goal.bounds-self-row_number
bounds-self-row_number c = let self = c.args.self.now in omega (arith, c.row_number.ensures.0, few_states self.edition self.chart.now self.good)

pub returns : goal.returns
returns c =
    let self = c.args.self.now in
    let asked = c.requires in
    (rw (c.from.ensures, c.row_number.ensures.0, self.indexed) (row-found self.edition self.chart.now self.good c.args.s asked.0 asked.1 c.args.g asked.2 asked.3), search rules)
