use mathlib.Core.Path.{refl, ◌∙◌}
use Rattle.machine.specs.Events.{read_tests}
use Rattle.state.specs.View.{state_of}
use Rattle.payloads.proofs.may_read.Goals as goal

pub returns : goal.returns
unfolding read_tests state_of
returns c = c.read_refusal.ensures ∙ rw c.is_stale-stale.ensures refl
