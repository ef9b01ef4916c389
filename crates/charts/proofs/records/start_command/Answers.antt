use Rattle.machine.specs.Machine.{choose, command}
use Rattle.charts.proofs.records.start_command.Goals as goal

pub returns : goal.returns
unfolding choose command
returns c = λ d p l. rw (c.said.ensures, ← c.arg-3.ensures.0, ← c.arg-2.ensures.0, ← c.arg.ensures.0, ← c.spoilt.ensures) (c.start.ensures p l)
