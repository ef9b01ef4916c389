use mathlib.Core.Path.{◌≡◌, refl, ◌∙◌}
use Prim.Native.Nat.{◌-◌}
use Rattle.drain.proofs.Laws.{coming-is}
use Rattle.machine.specs.Steps.{coming}
use Rattle.mail.specs.Entry.{hand_of}
use Rattle.mail.specs.View.{boxes_at, highest-mail}
use Rattle.state.specs.View.{state_of}
use Rattle.steps.proofs.Runs.{generations_of}
use Rattle.steps.proofs.coming.Goals as goal
use Rattle.steps.proofs.coming.Goals.{After-front}

-- The entry is that of the event that comes.
event : (c : After-front) → hand_of c.front.result ≡ coming (state_of c.args.k.now)
unfolding state_of
event c = coming-is (state_of c.args.k.now) c.args.p c.requires.2 c.front.result (c.front.ensures ∙ rw (boxes_at c.args.k.now.mail (c.args.p - 1)) refl)

pub front-requires : goal.front-requires
unfolding state_of
front-requires c = highest-mail c.args.k.now.mail c.args.p c.requires.2 c.requires.0

pub look-requires : goal.look-requires
look-requires c = rw (event (goal.at.look-requires c).After-front) c.requires.3.event

pub returns : goal.returns
unfolding state_of
returns c =
    let k = c.args.k.now in
    rw (event (goal.at.returns c).After-front) at (c.look.ensures (state_of k) refl (generations_of k _ c.generations.ensures))
