use Rattle.machine.specs.Machine.{choose, command}
use Rattle.events.proofs.records.post_front_command.Goals as goal

pub returns : goal.returns
unfolding choose command
returns c = λ d z. rw (c.said.ensures, ← c.arg.ensures.0, ← c.handle.ensures.generation, ← c.handle.ensures.block.0, ← c.spoilt.ensures) (c.post_front.ensures z)
