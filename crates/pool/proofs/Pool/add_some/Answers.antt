use borrow.Author.Rules.{rules}
use mathlib.Core.Path.{refl, ap, ◌∙◌}
use native.Mathlib.Omega.{arith}
use Rattle.pool.specs.Cell.{more, more_by}
use Rattle.pool.specs.Inside.{cell_of, cells}
use Rattle.pool.proofs.Store.{changed_out, changed_not, stored-count}
use Rattle.pool.proofs.Count.{used, more_most, more_some, more_still}
use Rattle.pool.proofs.Pool.add_some.Goals as goal
use Rattle.pool.proofs.Pool.add_some.Goals.{then-b-ge-BLOCKS-via-then-b-ge-BLOCKS, then-b-ge-BLOCKS-via-else-b-ge-BLOCKS+then-has}

pub returns-then-b-ge-BLOCKS-clause-cells : goal.returns-then-b-ge-BLOCKS-clause-cells
unfolding cells more cell_of
returns-then-b-ge-BLOCKS-clause-cells c =
    elim c.then-b-ge-BLOCKS.branch [
      | then-b-ge-BLOCKS-via-then-b-ge-BLOCKS w ↦ changed_out _ _ _ _ (more_by _) w.if-b-ge-BLOCKS.true
      | then-b-ge-BLOCKS-via-else-b-ge-BLOCKS+then-has w ↦ changed_not _ _ _ _ (more_by _) w.if-b-ge-BLOCKS.false w.has.ensures w.if-has.true (more_still _ refl _)
    ]

pub returns-then-held-lt-MOST-clause-cells : goal.returns-then-held-lt-MOST-clause-cells
unfolding cells
returns-then-held-lt-MOST-clause-cells c =
    stored-count _ _ _ _ (more_by _) c.if-b-ge-BLOCKS.false c.has.ensures c.if-has.false _ (search rules)
    (more_some _ _ c.if-held-lt-MOST.true _ ∙ ap (used _) (omega arith))

pub returns-else-held-lt-MOST-clause-cells : goal.returns-else-held-lt-MOST-clause-cells
unfolding cells
returns-else-held-lt-MOST-clause-cells c =
    changed_not _ _ _ _ (more_by _) c.if-b-ge-BLOCKS.false c.has.ensures c.if-has.false (more_still _ (more_most _ _ c.if-held-lt-MOST.false) _)
