use Rattle.machine.specs.Machine.{choose, command}
use Rattle.charts.proofs.records.load_command.Goals as goal

pub returns : goal.returns
unfolding choose command
returns c = λ p l. rw (c.load_reply.ensures, ← c.arg.ensures.0, ← c.spoilt.ensures) (c.load.ensures p l)
