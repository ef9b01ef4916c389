use borrow.Author.Tests.{eq-eqb, ne_eqb}
use Rattle.chart.specs.Step.{limit}
use Rattle.chart.proofs.step.limit_of.Goals as goal

pub returns-then-s-t : goal.returns-then-s-t
unfolding limit
returns-then-s-t c = rw (eq-eqb _ _ c.if-s-t.true) c.parent_of.ensures

pub returns-else-s-t : goal.returns-else-s-t
unfolding limit
returns-else-s-t c = rw (ne_eqb _ _ c.if-s-t.false) c.find_common.ensures
