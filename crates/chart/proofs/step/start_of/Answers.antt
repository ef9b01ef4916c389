use Rattle.chart.proofs.Steps.{start_out}
use Rattle.chart.proofs.step.start_of.Goals as goal

pub returns : goal.returns
returns c =
    rw (
      c.settle.ensures,
      c.enter.ensures,
      c.push.ensures,
      c.none-acts.ensures,
      c.field.ensures,
      c.field-target.ensures,
    )
    (start_out c.args.chart.now)
