use borrow.Author.Rules.{rules}
use mathlib.Core.Path.{refl}
use native.Mathlib.Omega.{arith}
use Rattle.pool.specs.Inside.{cells, marks, went_back}
use Rattle.pool.proofs.Store.{stored-count, stored_freed}
use Rattle.pool.proofs.Count.{back_last, back_sooner}
use Rattle.pool.proofs.Pool.go_back.Goals as goal

pub returns-then-self-b-lt-LAST_GENERATION : goal.returns-then-self-b-lt-LAST_GENERATION
unfolding cells marks
returns-then-self-b-lt-LAST_GENERATION c = record {
  cells = rw c.with-self.ensures (stored_freed _ _ _ _ went_back c.requires.0 refl c.requires.1 _ _ (search rules)
      (back_sooner _ _ _ c.if-self-b-lt-LAST_GENERATION.true));
  marks = refl;
}

pub returns-else-self-b-lt-LAST_GENERATION : goal.returns-else-self-b-lt-LAST_GENERATION
unfolding cells marks
returns-else-self-b-lt-LAST_GENERATION c = record {
  cells = stored-count _ _ _ _ went_back c.requires.0 refl c.requires.1 _ (search rules)
      (back_last _ _ _ _ c.if-self-b-lt-LAST_GENERATION.false (omega arith));
  marks = refl;
}
