use borrow.Author.Rules.{rules}
use mathlib.Core.Path.{sym, ap, ◌∙◌}
use lib.Dec.{eqb}
use Rattle.chart.proofs.Laws.{up_more, up_done, level_same}
use Rattle.chart.specs.Numbers.{levels}
use Rattle.flattener.proofs.faults.level_ok.Goals as goal

pub loop-k-preserved : goal.loop-k-preserved
loop-k-preserved c =
    let d = c.args.chart.now in
    let at = c.loop-k in
    rw c.parent_of-t.ensures (sym (up_more d at.k at.t (search rules)) ∙ at.invariant)

pub returns : goal.returns
returns c =
    let d = c.args.chart.now in
    ap (λ x. eqb x 0) (sym (up_done d c.loop-k.k c.loop-k.t (search rules)) ∙ c.loop-k.invariant) ∙ level_same d levels c.args.s
