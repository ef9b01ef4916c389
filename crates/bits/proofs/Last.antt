-- What a word's length tells: its last member.
use mathlib.Core.Path.{◌≡◌, sym, ◌∙◌}
use Prim.Native.Nat.{ℕ, ◌-◌, ◌^◌, ◌<◌, ◌≤◌}
use native.Mathlib.Decide.{dec_lt}
use native.Mathlib.Nat.{le_refl, pow-suc}
use native.Mathlib.Omega.{arith}
use borrow.Author.Tests.{le-leb, leb-true, lt-ltb, ltb-true}
use lib.Count.{count_leading_zeros, leading_length}
use lib.Pow.{pow_mono}
use Rattle.bits.specs.Laws.{last_size}
use Rattle.bits.specs.Members.{members, last_below}

pub highest-is : (w k : ℕ) → w < 2 ^ k → k - count_leading_zeros k w ≡ last_below (members w) k
highest-is w k h = go (dec_lt r m)
  where
    m : ℕ
    m = (leading_length k w h).0

    r : ℕ
    r = last_below (members w) k

    most : r ≤ m
    most = leb-true r m (last_size w k m h ∙ lt-ltb w (2 ^ m) (leading_length k w h).2)

    least : w < 2 ^ r
    least = ltb-true w (2 ^ r) (sym (last_size w k r h) ∙ le-leb r r (le_refl r))

    go : Dec (r < m) → k - count_leading_zeros k w ≡ r
    go (yes l) = absurd (omega (arith, least, pow_mono l, pow-suc 2 r, (leading_length k w h).3))
    go (no l) = omega (arith, most, (leading_length k w h).1)
