use borrow.Author.Rules.{rules}
use mathlib.Core.Path.{refl, ◌∙◌}
use native.Mathlib.Omega.{arith}
use Rattle.pool.specs.Cell.{fewer, fewer_by}
use Rattle.pool.specs.Inside.{cell_of, cells, marks, went_back}
use Rattle.pool.proofs.Store.{changed_not, changed_as, stored-count}
use Rattle.pool.proofs.Count.{fewer_none, fewer_retired, by_none, by_still, by_some, by_all}
use Rattle.pool.proofs.Pool.let_go_some.Goals as goal
use Rattle.pool.proofs.Pool.let_go_some.Goals.{then-times-eq0-via-then-times-eq0, then-times-eq0-via-else-times-eq0+then-has, then-times-eq0-via-else-times-eq0+else-has+then-held-eq-NEW, then-times-eq0-via-else-times-eq0+else-has+else-held-eq-NEW+then-held-gt-MOST}

pub returns-then-times-eq0-clause-cells : goal.returns-then-times-eq0-clause-cells
unfolding cells fewer cell_of
returns-then-times-eq0-clause-cells c =
    elim c.then-times-eq0.branch [
      | then-times-eq0-via-then-times-eq0 w ↦ changed_not _ _ _ _ (fewer_by _) c.requires refl refl (by_none _ _ w.if-times-eq0.true)
      | then-times-eq0-via-else-times-eq0+then-has w ↦ changed_not _ _ _ _ (fewer_by _) c.requires w.has.ensures w.if-has.true (by_still _ refl _)
      | then-times-eq0-via-else-times-eq0+else-has+then-held-eq-NEW w ↦
          changed_not _ _ _ _ (fewer_by _) c.requires w.has.ensures w.if-has.false (by_still _ (fewer_none _ _ w.if-held-eq-NEW.true).0 _)
      | then-times-eq0-via-else-times-eq0+else-has+else-held-eq-NEW+then-held-gt-MOST w ↦
          changed_not _ _ _ _ (fewer_by _) c.requires w.has.ensures w.if-has.false (by_still _ (fewer_retired _ _ w.if-held-gt-MOST.true).0 _)
    ]

pub returns-then-from-held : goal.returns-then-from-held
unfolding cells marks
returns-then-from-held c = record {
  cells = stored-count _ _ _ _ (fewer_by _) c.requires c.has.ensures c.if-has.false _ (search rules)
      (rw c.from-then-from-held.ensures (by_some _ _ c.if-held-gt-MOST.false _ (omega arith)));
  marks = refl;
}

pub returns-else-from-held-clause-cells : goal.returns-else-from-held-clause-cells
unfolding cells
returns-else-from-held-clause-cells c =
    c.go_back.ensures.cells ∙ changed_as _ _ _ _ (fewer_by _) c.requires c.has.ensures c.if-has.false went_back
    (by_all _ _ c.if-held-gt-MOST.false _ c.if-held-eq-NEW.false (omega arith))
