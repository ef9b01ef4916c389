-- Eight bytes as a word, the first byte the least.
use Rattle.std.specs.Prelude.{List, ◌≡◌, ℕ, ◌+◌, ◌*◌, ◌<◌, get_or}

abbrev pub word_bytes : ℕ
word_bytes = 8

-- The numbers a to h are bytes, and r is the word that they make.
pub record Joined (a b c d e f g h r : ℕ) : Type 0 where
  pub is : r ≡ a + 256 * (b + 256 * (c + 256 * (d + 256 * (e + 256 * (f + 256 * (g + 256 * h))))))
  pub small : (a < 256) × (b < 256) × (c < 256) × (d < 256) × (e < 256) × (f < 256) × (g < 256) × (h < 256)

-- The bytes of s from i on make the word r.
abbrev pub Word : List ℕ → ℕ → ℕ → Type 0
Word s i r =
    Joined (get_or s i 0) (get_or s (i + 1) 0) (get_or s (i + 2) 0) (get_or s (i + 3) 0) (get_or s (i + 4) 0) (get_or s (i + 5) 0) (get_or s (i + 6) 0) (get_or s (i + 7) 0) r
