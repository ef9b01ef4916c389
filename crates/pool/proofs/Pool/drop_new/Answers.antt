use mathlib.Core.Path.{refl}
use Rattle.pool.specs.Cell.{dropped, is_new}
use Rattle.pool.specs.Inside.{cell_of, cells}
use Rattle.pool.proofs.Store.{frees_out, frees_not, frees_it}
use Rattle.pool.proofs.Count.{dropped-new, dropped_none}
use Rattle.pool.proofs.Pool.drop_new.Goals as goal
use Rattle.pool.proofs.Pool.drop_new.Goals.{then-b-ge-BLOCKS-via-then-b-ge-BLOCKS, then-b-ge-BLOCKS-via-else-b-ge-BLOCKS+then-has, then-b-ge-BLOCKS-via-else-b-ge-BLOCKS+else-has+then-self-b-ne-NEW}

pub returns-then-b-ge-BLOCKS-clause-frees : goal.returns-then-b-ge-BLOCKS-clause-frees
unfolding cells dropped is_new cell_of
returns-then-b-ge-BLOCKS-clause-frees c =
    elim c.then-b-ge-BLOCKS.branch [
      | then-b-ge-BLOCKS-via-then-b-ge-BLOCKS w ↦ frees_out _ _ _ _ dropped is_new refl w.if-b-ge-BLOCKS.true
      | then-b-ge-BLOCKS-via-else-b-ge-BLOCKS+then-has w ↦ frees_not _ _ _ _ dropped is_new w.if-b-ge-BLOCKS.false w.has.ensures w.if-has.true (refl, refl)
      | then-b-ge-BLOCKS-via-else-b-ge-BLOCKS+else-has+then-self-b-ne-NEW w ↦
          frees_not _ _ _ _ dropped is_new w.if-b-ge-BLOCKS.false w.has.ensures w.if-has.false (dropped_none _ _ w.if-self-b-ne-NEW.true)
    ]

pub returns-clause-frees : goal.returns-clause-frees
unfolding cells
returns-clause-frees c =
    frees_it _ _ _ _ dropped is_new c.if-b-ge-BLOCKS.false c.has.ensures c.if-has.false _ c.go_back.ensures.cells (dropped-new _ _ c.if-self-b-ne-NEW.false)
