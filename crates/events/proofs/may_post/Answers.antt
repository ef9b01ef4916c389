use mathlib.Core.Path.{refl, ◌∙◌}
use Rattle.machine.specs.Events.{post_tests}
use Rattle.state.specs.View.{state_of}
use Rattle.events.proofs.may_post.Goals as goal

pub returns : goal.returns
unfolding post_tests state_of
returns c = c.post_refusal.ensures ∙ rw (c.is_stale-stale.ensures, c.is_started.ensures, c.room.ensures) refl
