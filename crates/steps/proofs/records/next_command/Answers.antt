use Rattle.machine.specs.Machine.{choose, command}
use Rattle.steps.proofs.records.next_command.Goals as goal

pub returns : goal.returns
unfolding choose command
returns c = λ d p l. rw (c.said.ensures, ← c.spoilt.ensures) (c.next.ensures p l)
