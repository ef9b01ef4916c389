use mathlib.Core.Path.{refl}
use Rattle.machine.specs.Clocks.{tick}
use Rattle.machine.specs.Reply.{lowest}
use Rattle.tick.specs.Timing.{timing}
use Rattle.state.specs.View.{state_of}
use Rattle.state.proofs.Glue.{refused, doing}
use Rattle.clocks.proofs.Timers.{ready_of, tick_answers}
use Rattle.clocks.proofs.tick.Goals as goal

pub returns-in_err-refuse_if : goal.returns-in_err-refuse_if
unfolding tick lowest
returns-in_err-refuse_if c = λ z. refused _ z _ _ _ _ c.from_residual.ensures.1 (rw (c.in_err-refuse_if.ensures.0, c.in_err-refuse_if.ensures.1) refl)

pub tick_all-ticks-requires : goal.tick_all-ticks-requires
tick_all-ticks-requires c = ready_of c.args.k.now c.requires

pub returns : goal.returns
unfolding tick lowest timing state_of
returns c = λ z. doing _ z _ _ _ _ (rw c.in_ok-refuse_if.ensures refl) (tick_answers _ _ z _ _ _ _ refl c.done.ensures (c.tick_all-ticks.ensures (state_of c.args.k.now)))
