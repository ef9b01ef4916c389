use borrow.Author.Rules.{rules}
use borrow.Author.Tests.{le-leb, lt-leb}
use mathlib.Core.Bool.{true, false, ◌&&◌}
use mathlib.Core.Path.{◌≡◌, sym, ap, ◌∙◌}
use Prim.Native.Nat.{◌/◌, ◌*◌}
use lib.ListN.{length}
use Rattle.ground.specs.Every.{every_done, every_pass, every_fail}
use Rattle.ground.specs.Parts.{tail_part}
use Rattle.chart.specs.Chart.{forms_ok, among}
use Rattle.chart.specs.Held.{form_at}
use Rattle.chart.specs.Numbers.{most_states}
use Rattle.flattener.proofs.faults.forms_ok.Goals as goal
use Rattle.flattener.proofs.faults.forms_ok.Goals.{After-loop-i}

pub loop-i-init : goal.loop-i-init
unfolding forms_ok
loop-i-init c = search rules

pub returns-then-not-form_ok : goal.returns-then-not-form_ok
returns-then-not-form_ok c =
    let d = c.args.chart.now in
    let n = c.args.n in
    let e = c.args.e in
    let i = c.loop-i.i in
    let q : form_at e n d i ≡ false = rw (← c.kind_at.ensures, ← tail_part d (8 * i)) (sym c.form_ok.ensures ∙ c.if-not-form_ok.true) in
    sym (ap (λ b. b && among (most_states e) n) (every_fail (form_at e n d) i (length d / 8) (search rules) q)) ∙ c.loop-i.invariant

pub loop-i-preserved : goal.loop-i-preserved
loop-i-preserved c =
    let d = c.args.chart.now in
    let n = c.args.n in
    let e = c.args.e in
    let i = c.loop-i.i in
    let q : form_at e n d i ≡ true = rw (← c.kind_at.ensures, ← tail_part d (8 * i)) (sym c.form_ok.ensures ∙ c.if-not-form_ok.false) in
    sym (ap (λ b. b && among (most_states e) n) (every_pass (form_at e n d) i (length d / 8) (search rules) q)) ∙ c.loop-i.invariant

-- behind the loop only the number of states is left
counted : (c : After-loop-i) → let from = c.args in among (most_states from.e) from.n ≡ forms_ok from.e from.n from.chart.now
counted c =
    let d = c.args.chart.now in
    let n = c.args.n in
    let e = c.args.e in
    sym (ap (λ b. b && among (most_states e) n) (every_done (form_at e n d) c.loop-i.i (length d / 8) (search rules))) ∙ c.loop-i.invariant

pub returns-then-n-ge1 : goal.returns-then-n-ge1
unfolding among
returns-then-n-ge1 c = rw c.most_states.ensures.0 (simp (le-leb _ _ c.if-n-ge1.true) at (counted (goal.at.returns-then-n-ge1 c).After-loop-i))

pub returns-else-n-ge1 : goal.returns-else-n-ge1
unfolding among
returns-else-n-ge1 c = rw (lt-leb _ _ c.if-n-ge1.false) (simp (lt-leb _ _ c.if-n-ge1.false) at (counted (goal.at.returns-else-n-ge1 c).After-loop-i))
