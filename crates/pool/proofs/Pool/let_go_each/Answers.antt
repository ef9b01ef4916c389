use mathlib.Core.Path.{refl, sym, ◌∙◌}
use native.Mathlib.Omega.{arith}
use Rattle.pool.specs.View.{cells-length}
use Rattle.pool.proofs.Each.{each_start, each_turn, each-end}
use Rattle.pool.proofs.Pool.let_go_each.Goals as goal

pub loop-b-init : goal.loop-b-init
loop-b-init c = (sym (each_start _), refl)

pub loop-b-preserved : goal.loop-b-preserved
loop-b-preserved c =
    let step = c.let_go_some.ensures in
    let head = c.loop-b in
    (step.cells ∙ each_turn _ _ head.b _ head.invariant.0, step.marks ∙ head.invariant.1)

pub returns : goal.returns
returns c =
    let head = c.loop-b in
    let start = c.args.self.now in
    record { cells = head.invariant.0 ∙ each-end _ _ head.b (omega (arith, cells-length start)); marks = head.invariant.1 }
