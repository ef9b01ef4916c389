use mathlib.Core.Path.{refl}
use Rattle.pool.specs.Cell.{stale_for}
use Rattle.pool.specs.Row.{stale_at}
use Rattle.pool.specs.Inside.{cell_of, cells}
use Rattle.pool.proofs.Store.{at-is, at_out}
use Rattle.pool.proofs.Count.{used_live, used_retired}
use Rattle.pool.proofs.Pool.is_stale.Goals as goal
use Rattle.pool.proofs.Pool.is_stale.Goals.{then-b-ge-BLOCKS-via-then-b-ge-BLOCKS, then-b-ge-BLOCKS-via-else-b-ge-BLOCKS+then-has, then-b-ge-BLOCKS-via-else-b-ge-BLOCKS+else-has+then-self-b-gt-MOST}

pub returns-then-b-ge-BLOCKS : goal.returns-then-b-ge-BLOCKS
unfolding cells stale_at stale_for cell_of
returns-then-b-ge-BLOCKS c =
    elim c.then-b-ge-BLOCKS.branch [
      | then-b-ge-BLOCKS-via-then-b-ge-BLOCKS w ↦ rw (at_out _ _ _ _ w.if-b-ge-BLOCKS.true) refl
      | then-b-ge-BLOCKS-via-else-b-ge-BLOCKS+then-has w ↦ rw (at-is _ _ _ _ w.if-b-ge-BLOCKS.false w.has.ensures w.if-has.true) refl
      | then-b-ge-BLOCKS-via-else-b-ge-BLOCKS+else-has+then-self-b-gt-MOST w ↦
          rw (at-is _ _ _ _ w.if-b-ge-BLOCKS.false w.has.ensures w.if-has.false, used_retired _ _ w.if-self-b-gt-MOST.true) refl
    ]

pub returns : goal.returns
unfolding cells stale_at stale_for
returns c =
    rw (at-is _ _ _ _ c.if-b-ge-BLOCKS.false c.has.ensures c.if-has.false, used_live _ _ c.if-self-b-gt-MOST.false) refl
