use mathlib.Core.Path.{sym, ◌∙◌}
use Rattle.pool.specs.Laws.{gone_turn, gone_end}
use Rattle.pool.proofs.Pool.let_go_all.Goals as goal

pub loop-b-preserved : goal.loop-b-preserved
loop-b-preserved c =
    let step = c.let_go.ensures in
    let head = c.loop-b in
    (rw (step.frees.row, c.from.ensures) (sym (gone_turn _ _ _ c.loop-b-test.true) ∙ head.invariant.0), step.marks ∙ head.invariant.1)

pub returns : goal.returns
returns c = let head = c.loop-b in record { cells = sym (gone_end _ _ _ c.loop-b-test.false) ∙ head.invariant.0; marks = head.invariant.1 }
