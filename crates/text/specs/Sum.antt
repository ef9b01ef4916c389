-- The sum by which a line tells an area.
use Rattle.std.specs.Prelude.{ℕ, ◌+◌, ◌*◌}
use mathlib.Core.List.{List, [], ◌∷◌}

-- each number times its place, the first of them at this one
abbrev pub weighted_from : ℕ → List ℕ → ℕ
weighted_from place [] = 0
weighted_from place (n ∷ ns) = place * n + weighted_from (place + 1) ns

-- each number times its place, counted from 1
abbrev pub weighted : List ℕ → ℕ
weighted ns = weighted_from 1 ns
