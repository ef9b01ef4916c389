use mathlib.Core.Path.{◌≡◌, sym}
use mathlib.Core.List.{[]}
use Prim.Native.Nat.{◌-◌}
use Rattle.chart.specs.Chart.{parent, path}
use Rattle.chart.specs.Held.{push_all}
use Rattle.chart.specs.Step.{enter, up_to}
use Rattle.chart.proofs.Walk.{push_none, push_append, enter_none, enter_top, enter-at, enter-more}
use Rattle.chart.proofs.step.Acts.+enter.Goals as goal
use Rattle.chart.proofs.step.Acts.+enter.Goals.{then-k-eq0-via-then-k-eq0, then-k-eq0-via-else-k-eq0+then-t-eq0, then-k-eq0-via-else-k-eq0+else-t-eq0+then-t-l}

pub returns-then-k-eq0 : goal.returns-then-k-eq0
returns-then-k-eq0 _ c =
    let d = c.args.chart.now in
    let k = c.args.k in
    let t = c.args.t in
    let l = c.args.l in
    let none : enter d (up_to l (path k d t)) ≡ [] = elim c.then-k-eq0.branch [
      | then-k-eq0-via-then-k-eq0 w ↦ enter_none d l k t w.if-k-eq0.true
      | then-k-eq0-via-else-k-eq0+then-t-eq0 w ↦ enter_top d l k t w.if-t-eq0.true
      | then-k-eq0-via-else-k-eq0+else-t-eq0+then-t-l w ↦ enter-at d l k t w.if-k-eq0.false w.if-t-eq0.false w.if-t-l.true
    ] in
    sym (push_none _ _ none)

pub returns : goal.returns
returns _ c =
    let from = c.args in
    let d = from.chart.now in
    let q = enter-more d from.l from.k from.t c.if-k-eq0.false c.if-t-eq0.false c.if-t-l.false in
    let e : c.enter.new.self ≡ push_all from.self.now (enter d (up_to from.l (path (from.k - 1) d (parent d from.t)))) =
    rw (← c.parent_of.ensures) c.enter.ensures in
    rw (c.push.ensures, c.state_field.ensures, e, q) (push_append _ _ _)
