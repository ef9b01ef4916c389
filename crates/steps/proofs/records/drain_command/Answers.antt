use Rattle.machine.specs.Machine.{choose, command}
use Rattle.steps.proofs.records.drain_command.Goals as goal

pub returns : goal.returns
unfolding choose command
returns c = λ d p. rw (c.said.ensures, ← c.arg-budget.ensures.0, ← c.spoilt.ensures) (c.drain.ensures p)
