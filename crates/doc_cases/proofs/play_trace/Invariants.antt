-- The kernel stays good.
use Rattle.state.specs.View.{Good}
use Rattle.doc_cases.proofs.play_trace.Given as goal

abbrev pub invariant-loop : goal.invariant-loop
invariant-loop g l = Good l.trace.kernel
