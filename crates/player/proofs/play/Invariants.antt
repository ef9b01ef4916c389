-- The kernel stays good.
use Rattle.state.specs.View.{Good}
use Rattle.player.proofs.play.Given as goal

abbrev pub invariant-loop : goal.invariant-loop
invariant-loop g l = Good l.k
