-- Laws of the three pools, for the layers above: their numbers, their free blocks, a fresh start.
use Rattle.std.specs.Prelude.{true, cond, List, ◌≡◌, refl, ℕ, zero, suc, ◌-◌, ◌<◌, ◌≤◌, ltb}
use Rattle.std.proofs.Common.{sym, ◌∙◌, arith, lt-ltb, le-ltb}
use Rattle.std.proofs.Math.Path.{ap}
use Rattle.std.proofs.lemmas.List.{get_or-replicate}
use Rattle.ground.specs.Counting.{count_all, count-more, count_same}
use Rattle.pool.specs.Cell.{Cell, free, absent, is_free}
use Rattle.pool.specs.Laws.{each-pool, pool-end}
use Rattle.pool.specs.Mark.{free_in, mark_of, fresh_marks, pools}
use Rattle.pool.specs.Row.{at, blocks, fresh_row, span, pool_for}
use Rattle.pool.specs.declared.Span.{Span}

-- a pool that has blocks has a mark
pub pool_marked : (size : ℕ) → (pool_for size).from < (pool_for size).to → (pool_for size).number < pools
pool_marked = each-pool (λ pool. pool.from < pool.to → pool.number < pools) (λ h. omega arith) (λ h. omega arith) (λ h. omega arith) (λ h. absurd (omega arith))

-- pools of one number are one pool
numbered : ℕ → Span
numbered zero = span 0 0 32
numbered (suc zero) = span 1 32 48
numbered (suc (suc zero)) = span 2 48 56
numbered (suc (suc (suc i))) = span 3 56 56

pub same_pool : (m n : ℕ) → (pool_for m).number ≡ (pool_for n).number → pool_for m ≡ pool_for n
unfolding numbered
same_pool m n e = sym (is m) ∙ ap numbered e ∙ is n
  where
    is : (size : ℕ) → numbered (pool_for size).number ≡ pool_for size
    is = each-pool (λ pool. numbered pool.number ≡ pool) refl refl refl refl

-- pools that have a block in common are of one number
pub same_number : (m n b : ℕ) → (pool_for m).from ≤ b → b < (pool_for m).to → (pool_for n).from ≤ b → b < (pool_for n).to → (pool_for m).number ≡ (pool_for n).number
same_number m n b l h k g = sym (is m l h) ∙ is n k g
  where
    number_at : ℕ
    number_at = cond (ltb b 32) 0 (cond (ltb b 48) 1 2)

    is : (size : ℕ) → (pool_for size).from ≤ b → b < (pool_for size).to → number_at ≡ (pool_for size).number
    is =
        each-pool (λ pool. pool.from ≤ b → b < pool.to → number_at ≡ pool.number)
        (λ l h. rw (lt-ltb b 32 h) refl)
        (λ l h. rw (le-ltb b 32 l, lt-ltb b 48 h) refl)
        (λ l h. rw (le-ltb b 32 (omega arith), le-ltb b 48 l) refl)
        (λ l h. absurd (omega arith))

-- the free blocks of a pool: at least as many where those of s are free in t too, as many where the two rows agree
module _ (pool : Span) (s t : List Cell) where
  pub free_more : ((b : ℕ) → pool.from ≤ b → b < pool.to → is_free (at s b) ≡ true → is_free (at t b) ≡ true) → free_in s pool ≤ free_in t pool
  unfolding free_in
  free_more h = count-more _ _ pool.from (pool.to - pool.from) (λ b l g. h b l (omega arith))

  pub free_same : ((b : ℕ) → pool.from ≤ b → b < pool.to → at s b ≡ at t b) → free_in s pool ≡ free_in t pool
  unfolding free_in
  free_same h = count_same _ _ pool.from (pool.to - pool.from) (λ b l g. ap is_free (h b l (omega arith)))

-- at a fresh start all of them are free, and the mark is as many
pub fresh_free : (size : ℕ) → free_in fresh_row (pool_for size) ≡ (pool_for size).to - (pool_for size).from
unfolding free_in is_free
fresh_free size =
    let pool = pool_for size in
    count_all _ pool.from (pool.to - pool.from) (λ b l h. rw (get_or-replicate blocks b (free 0) absent (omega (arith, pool-end size))) refl)

pub fresh-mark : (size : ℕ) → mark_of fresh_marks (pool_for size) ≡ (pool_for size).to - (pool_for size).from
fresh-mark = each-pool (λ pool. mark_of fresh_marks pool ≡ pool.to - pool.from) refl refl refl refl
