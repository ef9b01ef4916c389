use borrow.Author.Rules.{rules}
use mathlib.Core.Bool.{true, false}
use mathlib.Core.Path.{◌≡◌, refl, sym, ◌∙◌}
use Prim.Native.Nat.{◌/◌, ◌*◌}
use lib.ListN.{length}
use Rattle.ground.specs.Every.{every_done, every_pass, every_fail}
use Rattle.ground.specs.Parts.{tail_part}
use Rattle.chart.specs.Chart.{rows_ok}
use Rattle.chart.specs.Held.{row_good}
use Rattle.chart.proofs.Laws.{key_first, key-next}
use Rattle.flattener.proofs.faults.rows_ok.Goals as goal

pub loop-i-init : goal.loop-i-init
unfolding rows_ok
loop-i-init c = (sym (key_first c.args.n c.args.chart.now), refl)

pub returns-then-not-row_ok : goal.returns-then-not-row_ok
returns-then-not-row_ok c =
    let d = c.args.chart.now in
    let n = c.args.n in
    let e = c.args.e in
    let i = c.loop-i.i in
    let q : row_good e n d i ≡ false = rw (← c.loop-i.invariant.0, ← tail_part d (8 * i)) (sym c.row_ok.ensures ∙ c.if-not-row_ok.true) in
    sym (every_fail (row_good e n d) i (length d / 8) (search rules) q) ∙ c.loop-i.invariant.1

pub loop-i-preserved : goal.loop-i-preserved
loop-i-preserved c =
    let d = c.args.chart.now in
    let n = c.args.n in
    let e = c.args.e in
    let at = c.loop-i in
    let i = at.i in
    let q : row_good e n d i ≡ true = rw (← at.invariant.0, ← tail_part d (8 * i)) (sym c.row_ok.ensures ∙ c.if-not-row_ok.false) in (
      rw (key-next n d i (search rules), ← tail_part d (8 * i)) c.key_of-before.ensures,
      sym (every_pass (row_good e n d) i (length d / 8) (search rules) q) ∙ at.invariant.1,
    )

pub returns : goal.returns
returns c =
    let d = c.args.chart.now in
    sym (every_done (row_good c.args.e c.args.n d) c.loop-i.i (length d / 8) (search rules)) ∙ c.loop-i.invariant.1
