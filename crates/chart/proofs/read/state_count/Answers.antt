use borrow.Author.Rules.{rules}
use borrow.Author.Tests.{eq-eqb, ne_eqb}
use mathlib.Core.Bool.{not}
use mathlib.Core.Path.{sym, ap, ◌∙◌}
use Prim.Native.Nat.{◌-◌, ◌/◌}
use native.Mathlib.Omega.{arith}
use lib.ListN.{length}
use Rattle.ground.specs.Search.{first_end, first_hit, first_miss}
use Rattle.chart.specs.Chart.{states}
use Rattle.chart.specs.Held.{not_state}
use Rattle.chart.proofs.Laws.{states_le}
use Rattle.chart.proofs.read.state_count.Goals as goal

pub loop-i-init : goal.loop-i-init
unfolding states
loop-i-init c = search rules

pub returns-then-field : goal.returns-then-field
returns-then-field c =
    let d = c.args.chart.now in
    let i = c.loop-i.i in
    let other = ap not (ne_eqb _ _ (λ q. c.if-field.true (c.field.ensures ∙ q))) in
    ap (λ m. m - 1) (sym (first_hit (not_state d) i (length d / 8) (search rules) other)) ∙ c.loop-i.invariant

pub loop-i-preserved : goal.loop-i-preserved
loop-i-preserved c =
    let d = c.args.chart.now in
    let i = c.loop-i.i in
    let one = ap not (eq-eqb _ _ (sym c.field.ensures ∙ c.if-field.false)) in
    ap (λ m. m - 1) (sym (first_miss (not_state d) i (length d / 8) (search rules) one)) ∙ c.loop-i.invariant

pub returns : goal.returns
returns c =
    let d = c.args.chart.now in
    let e = first_end (not_state d) c.loop-i.i (length d / 8) (search rules) in
    omega (arith, e, c.loop-i.invariant, states_le d)
