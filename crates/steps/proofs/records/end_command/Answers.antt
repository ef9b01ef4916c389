use Rattle.machine.specs.Machine.{choose, command}
use Rattle.steps.proofs.records.end_command.Goals as goal

pub returns : goal.returns
unfolding choose command
returns c = λ d z. rw (c.said.ensures, ← c.spoilt.ensures) (c.end.ensures z)
