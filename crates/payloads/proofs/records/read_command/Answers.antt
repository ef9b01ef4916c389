use Rattle.machine.specs.Machine.{choose, command}
use Rattle.payloads.proofs.records.read_command.Goals as goal

pub returns : goal.returns
unfolding choose command
returns c = λ d t u l. rw (c.said.ensures, ← c.handle.ensures.generation, ← c.handle.ensures.block.0, ← c.spoilt.ensures) (c.read.ensures t u l)
