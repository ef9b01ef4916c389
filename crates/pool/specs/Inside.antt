-- How a pool's fields stand for a row and for marks. For this crate's proofs alone: no other crate names this file.
use Rattle.std.specs.Prelude.{Bool, true, false, cond, List, ℕ, leb, get_or}
use Rattle.bits.specs.Members.{members}
use Rattle.ground.specs.Range.{tab}
use Rattle.pool.specs.Cell.{Cell, free, live, retired, back, generation_of, most_references}
use Rattle.pool.specs.Row.{blocks}
use Rattle.pool.specs.declared.Pool.{Pool}

-- A block that is in the set is free, any other is live with its count of references, or retired with a count above all of these.
unfoldable pub cell_of : ℕ → ℕ → Bool → Cell
cell_of g n true = free g
cell_of g n false = cond (leb n most_references) (live g n) (retired g)

abbrev pub cell_at : List ℕ → List ℕ → (ℕ → Bool) → ℕ → Cell
cell_at gens counts frees b = cell_of (get_or gens b 0) (get_or counts b 0) (frees b)

unfoldable pub row_of : List ℕ → List ℕ → (ℕ → Bool) → List Cell
row_of gens counts frees = tab (cell_at gens counts frees) blocks

unfoldable pub cells : Pool → List Cell
cells p = row_of p.generations p.counts (members p.free)

unfoldable pub marks : Pool → List ℕ
marks p = p.marks

-- What going back makes of any block.
unfoldable pub went_back : Cell → Cell
went_back c = back (generation_of c)
