-- A word as a set of numbers, and what is searched among them.
use Rattle.std.specs.Prelude.{Bool, cond, ℕ, zero, suc, ◌/◌, ◌%◌, ◌^◌, eqb}

-- A word has so many digits, so its members are below this.
abbrev pub width : ℕ
width = 64

-- i is in the set that w stands for: digit i of w, in binary, is 1.
unfoldable pub members : ℕ → ℕ → Bool
members w i = eqb (w / 2 ^ i % 2) 1

-- The set s, but that i is in it as t says.
unfoldable pub put : ℕ → Bool → (ℕ → Bool) → ℕ → Bool
put i t s j = cond (eqb j i) t (s j)

-- One more than the last number below n that is in the set, 0 where none is.
unfoldable pub last_below : (ℕ → Bool) → ℕ → ℕ
last_below s zero = 0
last_below s (suc n) = cond (s n) (suc n) (last_below s n)
