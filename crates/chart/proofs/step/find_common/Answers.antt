use borrow.Author.Rules.{rules}
use mathlib.Core.Bool.{Bool}
use mathlib.Core.List.{List}
use mathlib.Core.Path.{sym, ◌∙◌}
use Prim.Native.Nat.{ℕ, ◌-◌}
use Rattle.chart.specs.Chart.{has, outward}
use Rattle.chart.proofs.Walk.{first_of_top, first_of_found, first_of_more, first_of_done}
use Rattle.chart.specs.Numbers.{levels}
use Rattle.chart.proofs.step.find_common.Goals as goal

abbrev above : List ℕ → ℕ → ℕ → Bool
above d t x = has x (outward d t)

pub returns-then-x-eq0 : goal.returns-then-x-eq0
returns-then-x-eq0 c =
    let d = c.args.chart.now in
    let at = c.loop-k in
    sym (first_of_top (above d c.args.t) d (levels - at.k) at.x c.if-x-eq0.true) ∙ at.invariant

pub returns-then-contains : goal.returns-then-contains
returns-then-contains c =
    let d = c.args.chart.now in
    let at = c.loop-k in
    let found = sym c.contains.ensures ∙ c.if-contains.true in
    sym (first_of_found (above d c.args.t) d at.k at.x (search rules) c.if-x-eq0.false found) ∙ at.invariant

pub loop-k-preserved : goal.loop-k-preserved
loop-k-preserved c =
    let d = c.args.chart.now in
    let at = c.loop-k in
    let other = sym c.contains.ensures ∙ c.if-contains.false in
    rw c.parent_of-x.ensures
    (sym (first_of_more (above d c.args.t) d at.k at.x (search rules) c.if-x-eq0.false other) ∙ at.invariant)

pub returns : goal.returns
returns c =
    let d = c.args.chart.now in
    sym (first_of_done (above d c.args.t) d c.loop-k.k c.loop-k.x (search rules)) ∙ c.loop-k.invariant
