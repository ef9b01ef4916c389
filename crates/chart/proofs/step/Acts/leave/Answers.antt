use borrow.Author.Rules.{rules}
use mathlib.Core.Path.{◌≡◌, sym, ap, ◌∙◌}
use mathlib.Core.List.{[]}
use Prim.Native.Nat.{◌-◌}
use Rattle.chart.specs.Chart.{path}
use Rattle.chart.specs.Held.{push_all}
use Rattle.chart.specs.Step.{leave, up_to}
use Rattle.chart.proofs.Walk.{push_none, push_append, leave_top, leave-at, leave-more, leave_done}
use Rattle.chart.specs.Numbers.{levels}
use Rattle.chart.proofs.step.Acts.leave.Goals as goal
use Rattle.chart.proofs.step.Acts.leave.Goals.{then-x-eq0-via-then-x-eq0, then-x-eq0-via-else-x-eq0+then-x-l}

pub returns-then-x-eq0 : goal.returns-then-x-eq0
returns-then-x-eq0 c =
    let d = c.args.chart.now in
    let l = c.args.l in
    let at = c.loop-k in
    let none : leave d (up_to l (path (levels - at.k) d at.x)) ≡ [] = elim c.then-x-eq0.branch [
      | then-x-eq0-via-then-x-eq0 w ↦ leave_top d l (levels - at.k) at.x w.if-x-eq0.true
      | then-x-eq0-via-else-x-eq0+then-x-l w ↦ leave-at d l at.k at.x (search rules) w.if-x-eq0.false w.if-x-l.true
    ] in
    sym (push_none _ _ none) ∙ at.invariant

pub loop-k-preserved : goal.loop-k-preserved
loop-k-preserved c =
    let from = c.args in
    let at = c.loop-k in
    let q = leave-more from.chart.now from.l at.k at.x (search rules) c.if-x-eq0.false c.if-x-l.false in
    rw (c.push.ensures, c.state_field.ensures, c.parent_of-x.ensures)
    (push_append at.self _ _ ∙ ap (push_all at.self) (sym q) ∙ at.invariant)

pub returns : goal.returns
returns c =
    let from = c.args in
    sym (push_none _ _ (leave_done from.chart.now from.l c.loop-k.k c.loop-k.x (search rules))) ∙ c.loop-k.invariant
