-- Document 02, request 5: how near each pool came to having no block left.
use Rattle.std.specs.Prelude.{List, [], ◌∷◌, Option, Some, None, ℕ, ◌-◌, min, get_or, set}
use Rattle.ground.specs.Range.{count_from}
use Rattle.pool.specs.Cell.{Cell, is_free, handed_out}
use Rattle.pool.specs.Row.{at, changed}
use Rattle.pool.specs.declared.Span.{Span}

-- The number of free blocks of a pool.
unfoldable pub free_in : List Cell → Span → ℕ
free_in s pool = count_from (λ b. is_free (at s b)) pool.from (pool.to - pool.from)

-- A pool's mark is the least number of free blocks that it has had since the fresh start, when it is the pool's size. The marks of the
-- pools stand in the order of their numbers.
abbrev pub pools : ℕ
pools = 3

abbrev pub fresh_marks : List ℕ
fresh_marks = 32 ∷ 16 ∷ 8 ∷ []

abbrev pub mark_of : List ℕ → Span → ℕ
mark_of marks pool = get_or marks pool.number 0

-- The mark of a pool once its block b is handed out, this one counted as taken: the smaller of what is free now and what it was.
unfoldable pub mark_with : List Cell → List ℕ → Span → ℕ → ℕ
mark_with s marks pool b = min (free_in (changed handed_out s b) pool) (mark_of marks pool)

-- Handing out moves the mark of its own pool alone; where nothing is found, no mark moves.
unfoldable pub marks_after : List Cell → List ℕ → Span → Option ℕ → List ℕ
marks_after s marks pool (Some b) = set marks pool.number (mark_with s marks pool b)
marks_after s marks pool None = marks
