use Rattle.machine.specs.Machine.{choose, command}
use Rattle.events.proofs.records.hold_command.Goals as goal

pub returns : goal.returns
unfolding choose command
returns c = λ d z. rw (c.said.ensures, ← c.handle.ensures.generation, ← c.handle.ensures.block.0, ← c.spoilt.ensures) (c.hold.ensures z)
