use borrow.Author.Rules.{rules}
use mathlib.Core.Path.{sym, ap, ◌∙◌}
use Prim.Native.Nat.{◌-◌}
use Rattle.chart.specs.Chart.{has}
use Rattle.chart.proofs.Laws.{path_top, path_done, has_more, has-found}
use Rattle.chart.specs.Numbers.{levels}
use Rattle.chart.proofs.read.contains.Goals as goal

pub returns-then-t-eq0 : goal.returns-then-t-eq0
unfolding has
returns-then-t-eq0 c = ap (has _) (sym (path_top _ (levels - c.loop-k.k) _ c.if-t-eq0.true)) ∙ c.loop-k.invariant

pub returns-then-t-x : goal.returns-then-t-x
returns-then-t-x c =
    let d = c.args.chart.now in
    sym (has-found d _ c.loop-k.k c.loop-k.t (search rules) c.if-t-eq0.false c.if-t-x.true) ∙ c.loop-k.invariant

pub loop-k-preserved : goal.loop-k-preserved
loop-k-preserved c =
    let d = c.args.chart.now in
    let at = c.loop-k in
    rw c.parent_of-t.ensures
    (sym (has_more d _ at.k at.t (search rules) c.if-t-eq0.false c.if-t-x.false) ∙ at.invariant)

pub returns : goal.returns
unfolding has
returns c =
    let d = c.args.chart.now in
    let q = path_done d c.loop-k.k c.loop-k.t (search rules) in
    sym (simp q) ∙ c.loop-k.invariant
