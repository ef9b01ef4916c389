use Rattle.chart.proofs.Steps.{moved_out}
use Rattle.chart.proofs.step.move_to.Goals as goal

pub returns : goal.returns
returns c =
    let l = c.limit_of-limit in
    let given = c.args in
    rw (
      c.settle.ensures,
      c.enter.ensures,
      c.leave-2.ensures,
      c.leave.ensures,
      c.push.ensures,
      c.none-acts.ensures,
    )
    (moved_out given.chart.now given.x given.s given.t given.a l.result l.ensures)
