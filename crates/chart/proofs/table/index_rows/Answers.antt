use borrow.Author.Rules.{rules}
use mathlib.Core.Path.{◌≡◌, refl, ap, ◌∙◌}
use Prim.Native.Nat.{◌-◌, ◌+◌, ◌*◌, ◌/◌}
use lib.ListN.{length}
use Rattle.ground.specs.Parts.{tail_part}
use Rattle.chart.specs.Held.{index_from, noted}
use Rattle.chart.proofs.Index.{index_none, index_turn, index_done}
use Rattle.chart.proofs.table.index_rows.Goals as goal

pub loop-i-init : goal.loop-i-init
loop-i-init c = index_none c.args.chart.now (length c.args.chart.now / 8) refl

pub loop-i-preserved : goal.loop-i-preserved
loop-i-preserved c =
    let d = c.args.chart.now in
    let i = c.loop-i.i - 1 in
    let e : c.loop-i.i ≡ i + 1 = search rules in
    c.note.ensures ∙ ap (noted _ i) (c.loop-i.invariant ∙ ap (index_from d) e) ∙ index_turn d i (search rules) _ (tail_part d (8 * i))

pub returns : goal.returns
returns c =
    let d = c.args.chart.now in
    let e : c.loop-i.i ≡ 0 = search rules in
    c.loop-i.invariant ∙ ap (index_from d) e ∙ index_done d
