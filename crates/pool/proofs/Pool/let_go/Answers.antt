use borrow.Author.Rules.{rules}
use mathlib.Core.Path.{refl}
use Rattle.pool.specs.Cell.{fewer, at_last}
use Rattle.pool.specs.Inside.{cell_of, cells, marks}
use Rattle.pool.proofs.Store.{frees_out, frees_not, frees-count, frees_it}
use Rattle.pool.proofs.Count.{fewer_none, fewer-last, fewer_retired, fewer-one}
use Rattle.pool.proofs.Pool.let_go.Goals as goal
use Rattle.pool.proofs.Pool.let_go.Goals.{then-b-ge-BLOCKS-via-then-b-ge-BLOCKS, then-b-ge-BLOCKS-via-else-b-ge-BLOCKS+then-has, then-held-eq-NEW-via-then-held-eq-NEW, then-held-eq-NEW-via-else-held-eq-NEW+then-held-gt-MOST}

pub returns-then-b-ge-BLOCKS-clause-frees : goal.returns-then-b-ge-BLOCKS-clause-frees
unfolding cells fewer at_last cell_of
returns-then-b-ge-BLOCKS-clause-frees c =
    elim c.then-b-ge-BLOCKS.branch [
      | then-b-ge-BLOCKS-via-then-b-ge-BLOCKS w ↦ frees_out _ _ _ _ fewer at_last refl w.if-b-ge-BLOCKS.true
      | then-b-ge-BLOCKS-via-else-b-ge-BLOCKS+then-has w ↦ frees_not _ _ _ _ fewer at_last w.if-b-ge-BLOCKS.false w.has.ensures w.if-has.true (refl, refl)
    ]

pub returns-then-held-eq-NEW-clause-frees : goal.returns-then-held-eq-NEW-clause-frees
unfolding cells
returns-then-held-eq-NEW-clause-frees c =
    elim c.then-held-eq-NEW.branch [
      | then-held-eq-NEW-via-then-held-eq-NEW w ↦
          frees_not _ _ _ _ fewer at_last c.if-b-ge-BLOCKS.false c.has.ensures c.if-has.false (fewer_none _ _ w.if-held-eq-NEW.true)
      | then-held-eq-NEW-via-else-held-eq-NEW+then-held-gt-MOST w ↦
          frees_not _ _ _ _ fewer at_last c.if-b-ge-BLOCKS.false c.has.ensures c.if-has.false (fewer_retired _ _ w.if-held-gt-MOST.true)
    ]

pub returns-then-held-eq-LAST-clause-frees : goal.returns-then-held-eq-LAST-clause-frees
unfolding cells
returns-then-held-eq-LAST-clause-frees c =
    frees_it _ _ _ _ fewer at_last c.if-b-ge-BLOCKS.false c.has.ensures c.if-has.false _ c.go_back.ensures.cells
    (fewer-last _ _ c.if-held-eq-LAST.true)

pub returns : goal.returns
unfolding cells marks
returns c = record {
  frees = frees-count _ _ _ _ fewer at_last c.if-b-ge-BLOCKS.false c.has.ensures c.if-has.false _ (search rules)
      (fewer-one _ _ c.if-held-eq-NEW.false c.if-held-eq-LAST.false c.if-held-gt-MOST.false);
  marks = refl;
}
