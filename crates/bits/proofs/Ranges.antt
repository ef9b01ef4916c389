-- What the digits of a range tell, counted at the end of a word: its first member, and how many it has.
use mathlib.Core.Bool.{cond}
use mathlib.Core.Path.{◌≡◌, refl, ap, ◌∙◌}
use Prim.Native.Nat.{ℕ, zero, suc, ◌+◌, ◌-◌, ◌*◌, ◌/◌, ◌%◌, ◌^◌, ◌<◌, ◌≤◌}
use native.Mathlib.Nat.{mod-lt, mod-one, mul-one, add-zero, zero-add, suc-add}
use native.Mathlib.Numerals.{add-one}
use native.Mathlib.Omega.{arith}
use lib.Bits.{shifted_half, shifted_even}
use lib.Count.{under, count_trailing_zeros, trailing_le, ones, ones_in, ones_step}
use lib.Dec.{eqb}
use lib.Pow.{mod-mod-pow, field, shr-shr}
use Rattle.bits.specs.Inside.{moved_up}
use Rattle.bits.specs.Members.{members, width}
use Rattle.ground.specs.Range.{count_from, first_from}

-- the k digits from i on
half : (w i : ℕ) → w / 2 ^ i / 2 ≡ w / 2 ^ suc i
half w i = shr-shr w i 1 ∙ ap (λ k. w / 2 ^ k) (add-one i)

under_first : (d i t r : ℕ) → d < 2 → suc i + t ≡ r → i + under d t ≡ cond (eqb d 1) i r
under_first zero i t r h e = omega arith
under_first (suc zero) i t r h e = omega arith
under_first (suc (suc d)) i t r h e = absurd (omega arith)

trailing_first : (w i k : ℕ) → i + count_trailing_zeros k (w / 2 ^ i) ≡ first_from (members w) i k
unfolding count_trailing_zeros first_from members
trailing_first w i zero = add-zero i
trailing_first w i (suc k) = under_first (w / 2 ^ i % 2) i _ _ (mod-lt (w / 2 ^ i) (omega arith)) (rw (half w i) (trailing_first w (suc i) k))

digit_one : (d : ℕ) → d < 2 → d ≡ cond (eqb d 1) 1 0
digit_one zero h = refl
digit_one (suc zero) h = refl
digit_one (suc (suc d)) h = absurd (omega arith)

ones_count : (w i k : ℕ) → ones_in k (w / 2 ^ i) ≡ count_from (members w) i k
unfolding ones_in count_from members
ones_count w i zero = refl
ones_count w i (suc k) = rw (half w i, ones_count w (suc i) k, ← digit_one (w / 2 ^ i % 2) (mod-lt (w / 2 ^ i) (omega arith))) refl

-- digits that are moved up by s have s zeros below them
trailing_moved : (x s k : ℕ) → count_trailing_zeros (s + k) (x * 2 ^ s) ≡ s + count_trailing_zeros k x
unfolding count_trailing_zeros
trailing_moved x zero k = rw (mul-one x, zero-add k, zero-add) refl
trailing_moved x (suc s) k = rw (suc-add s k, suc-add, shifted_even x s, shifted_half x s, trailing_moved x s k) refl

ones_moved : (x s k : ℕ) → ones_in (s + k) (x * 2 ^ s) ≡ ones_in k x
unfolding ones_in
ones_moved x zero k = rw (mul-one x, zero-add k) refl
ones_moved x (suc s) k = rw (suc-add s k, shifted_even x s, shifted_half x s, zero-add) (ones_moved x s k)

-- a count of n digits sees no others
low_digit : (x n : ℕ) → x % 2 ^ suc n % 2 ≡ x % 2
low_digit x n = rw (← add-one n) (mod-mod-pow x n 1)

low_rest : (x n : ℕ) → x % 2 ^ suc n / 2 ≡ x / 2 % 2 ^ n
low_rest x n = rw (← add-one n) (field x n 1)

trailing_low : (x n : ℕ) → count_trailing_zeros n (x % 2 ^ n) ≡ count_trailing_zeros n x
unfolding count_trailing_zeros
trailing_low x zero = refl
trailing_low x (suc n) = rw (low_digit x n, low_rest x n, trailing_low (x / 2) n) refl

ones_low : (x n : ℕ) → ones (x % 2 ^ n) ≡ ones_in n x
unfolding ones ones_in
ones_low x zero = rw (mod-one x) refl
ones_low x (suc n) = ones_step (x % 2 ^ suc n) ∙ rw (low_digit x n, low_rest x n, ones_low (x / 2) n) refl

-- so the k lowest digits of x, moved up to the end of a word of s + k
trailing_end : (x s k : ℕ) → count_trailing_zeros (s + k) (x * 2 ^ s % 2 ^ (s + k)) ≡ s + count_trailing_zeros k x
trailing_end x s k = trailing_low (x * 2 ^ s) (s + k) ∙ trailing_moved x s k

ones_end : (x s k : ℕ) → ones (x * 2 ^ s % 2 ^ (s + k)) ≡ ones_in k x
ones_end x s k = ones_low (x * 2 ^ s) (s + k) ∙ ones_moved x s k

module _ (w from to : ℕ) (h : from < to) (g : to ≤ width) where
  whole : (width - (to - from)) + (to - from) ≡ width
  whole = omega arith

  pub lowest-is : (width - count_trailing_zeros width (moved_up w from to) ≤ to) ×
      (to - (width - count_trailing_zeros width (moved_up w from to)) ≡ first_from (members w) from (to - from))
  lowest-is =
      let zeros = rw whole at (trailing_end (w / 2 ^ from) (width - (to - from)) (to - from)) in
      let first = trailing_first w from (to - from) in
      let most = trailing_le width (moved_up w from to) in
      (omega arith, omega arith)

  pub count-is : ones (moved_up w from to) ≡ count_from (members w) from (to - from)
  count-is = (rw whole at (ones_end (w / 2 ^ from) (width - (to - from)) (to - from))) ∙ ones_count w from (to - from)
