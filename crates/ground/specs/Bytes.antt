-- Bytes: whether a part of them is 0, and a list cut or filled up with zeros to a length.
use Rattle.std.specs.Prelude.{Bool, List, ◌++◌, ℕ, eqb, get_or, take, replicate}
use Rattle.ground.specs.Range.{every}

-- Bytes i up to, not including, e of r are 0.
unfoldable pub blank : List ℕ → ℕ → ℕ → Bool
blank r i e = every (λ j. eqb (get_or r j 0) 0) i e

-- The first k bytes of a list, with zeros where it has fewer.
unfoldable pub padded : ℕ → List ℕ → List ℕ
padded k l = take k (l ++ replicate k 0)
