use borrow.Author.Rules.{rules}
use mathlib.Core.Bool.{true, false}
use mathlib.Core.Path.{◌≡◌, sym, ◌∙◌}
use Prim.Native.Nat.{◌+◌, ◌*◌}
use Rattle.ground.specs.Every.{every_done, every_pass, every_fail}
use Rattle.ground.specs.Parts.{tail_part}
use Rattle.chart.specs.Chart.{tree_ok}
use Rattle.chart.specs.Held.{state_at}
use Rattle.flattener.proofs.faults.tree_ok.Goals as goal

pub returns-then-not-is_among : goal.returns-then-not-is_among
unfolding tree_ok
returns-then-not-is_among c = simp (← c.field.ensures, sym c.is_among.ensures ∙ c.if-not-is_among.true)

pub loop-s-init : goal.loop-s-init
unfolding tree_ok
loop-s-init c = simp (← c.field.ensures, sym c.is_among.ensures ∙ c.if-not-is_among.false)

pub returns-then-not-state_ok : goal.returns-then-not-state_ok
returns-then-not-state_ok c =
    let d = c.args.chart.now in
    let n = c.args.n in
    let s = c.loop-s.s in
    let q : state_at n d s ≡ false = rw (← tail_part d (8 * s)) (sym c.state_ok.ensures ∙ c.if-not-state_ok.true) in
    sym (every_fail (state_at n d) s (n + 1) (search rules) q) ∙ c.loop-s.invariant

pub loop-s-preserved : goal.loop-s-preserved
loop-s-preserved c =
    let d = c.args.chart.now in
    let n = c.args.n in
    let s = c.loop-s.s in
    let q : state_at n d s ≡ true = rw (← tail_part d (8 * s)) (sym c.state_ok.ensures ∙ c.if-not-state_ok.false) in
    sym (every_pass (state_at n d) s (n + 1) (search rules) q) ∙ c.loop-s.invariant

pub returns : goal.returns
returns c =
    let from = c.args in
    sym (every_done (state_at from.n from.chart.now) c.loop-s.s (from.n + 1) (search rules)) ∙ c.loop-s.invariant
