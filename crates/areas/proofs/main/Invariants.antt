-- The kernel stays good.
use Rattle.state.specs.View.{Good}
use Rattle.areas.proofs.main.Given as goal

abbrev pub invariant-loop : goal.invariant-loop
invariant-loop l = Good l.k
