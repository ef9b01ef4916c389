-- The members of a word that was joined with another, and of one that has one digit alone.
use mathlib.Core.Bool.{Bool, true, false, cond, xor, ◌||◌}
use mathlib.Core.Path.{◌≡◌, refl, sym, ◌∙◌, fun_ext}
use Prim.Native.Nat.{ℕ, zero, suc, ◌+◌, ◌*◌, ◌/◌, ◌%◌, ◌^◌, ◌<◌}
use native.Mathlib.Nat.{mod-lt, div-one, zero-div}
use native.Mathlib.Omega.{arith}
use lib.Bits.{bit_or, bit_xor, or_shr, or_mod, xor_shr, xor_mod, shifted_half, shifted_even}
use lib.Dec.{eqb, eqb-suc-zero, eqb-zero-suc, eqb-suc-suc}
use lib.Pow.{shr-shr, shl_exact}
use Rattle.bits.specs.Members.{members, put, width}

-- what an operation makes of two digits it makes of every digit of two words
module _ (op : ℕ → ℕ → ℕ) (f : Bool → Bool → Bool)
    (high : (a b k : ℕ) → op a b / 2 ^ k ≡ op (a / 2 ^ k) (b / 2 ^ k)) (low : (a b k : ℕ) → op a b % 2 ^ k ≡ op (a % 2 ^ k) (b % 2 ^ k))
    (digit : (x y : ℕ) → x < 2 → y < 2 → eqb (op x y) 1 ≡ f (eqb x 1) (eqb y 1)) where
  members_of : (a b i : ℕ) → members (op a b) i ≡ f (members a i) (members b i)
  unfolding members
  members_of a b i = rw (high a b i, low (a / 2 ^ i) (b / 2 ^ i) 1) (digit _ _ (mod-lt (a / 2 ^ i) (omega arith)) (mod-lt (b / 2 ^ i) (omega arith)))

or_digit : (x y : ℕ) → x < 2 → y < 2 → eqb (bit_or x y) 1 ≡ (eqb x 1 || eqb y 1)
or_digit zero y h g = refl
or_digit (suc zero) zero h g = refl
or_digit (suc zero) (suc zero) h g = refl
or_digit (suc zero) (suc (suc y)) h g = absurd (omega arith)
or_digit (suc (suc x)) y h g = absurd (omega arith)

members_or : (a b i : ℕ) → members (bit_or a b) i ≡ (members a i || members b i)
members_or = members_of bit_or ◌||◌ or_shr or_mod or_digit

xor_digit : (x y : ℕ) → x < 2 → y < 2 → eqb (bit_xor x y) 1 ≡ xor (eqb x 1) (eqb y 1)
unfolding xor
xor_digit zero zero h g = refl
xor_digit zero (suc zero) h g = refl
xor_digit zero (suc (suc y)) h g = absurd (omega arith)
xor_digit (suc zero) zero h g = refl
xor_digit (suc zero) (suc zero) h g = refl
xor_digit (suc zero) (suc (suc y)) h g = absurd (omega arith)
xor_digit (suc (suc x)) y h g = absurd (omega arith)

members_xor : (a b i : ℕ) → members (bit_xor a b) i ≡ xor (members a i) (members b i)
members_xor = members_of bit_xor xor xor_shr xor_mod xor_digit

-- a word of one digit
members_half : (w i : ℕ) → members w (suc i) ≡ members (w / 2) i
unfolding members
members_half w i = let e : 1 + i ≡ suc i = omega arith in rw (shr-shr w 1 i, e) refl

none : (i : ℕ) → members 0 i ≡ false
unfolding members
none i = rw (zero-div (2 ^ i)) refl

one : (i j : ℕ) → members (1 * 2 ^ i) j ≡ eqb j i
unfolding members
one zero zero = refl
one zero (suc j) = members_half 1 j ∙ none j ∙ sym (eqb-suc-zero j)
one (suc i) zero = rw (div-one, shifted_even 1 i, eqb-zero-suc i) refl
one (suc i) (suc j) = members_half (1 * 2 ^ suc i) j ∙ rw (shifted_half 1 i, eqb-suc-suc j i) (one i j)

-- so a set with i, and without it
module _ (w i : ℕ) (h : i < width) where
  only : 1 * 2 ^ i % 2 ^ width ≡ 1 * 2 ^ i
  only = shl_exact {a = 1} 1 i width (omega arith) (omega arith)

  joined : (j : ℕ) → members (bit_or w (1 * 2 ^ i % 2 ^ width)) j ≡ (members w j || eqb j i)
  joined j = rw (members_or, only, one i j) refl

  pub with_is : members (bit_or w (1 * 2 ^ i % 2 ^ width)) ≡ put i true (members w)
  unfolding put
  with_is = fun_ext (λ j. joined j ∙ by_cases (members w j) (eqb j i))
    where
      by_cases : (a b : Bool) → (a || b) ≡ cond b true a
      by_cases true true = refl
      by_cases true false = refl
      by_cases false true = refl
      by_cases false false = refl

  pub without_is : members (bit_xor (bit_or w (1 * 2 ^ i % 2 ^ width)) (1 * 2 ^ i % 2 ^ width)) ≡ put i false (members w)
  unfolding put xor
  without_is = fun_ext (λ j. rw (members_xor, joined j, only, one i j) (by_cases (members w j) (eqb j i)))
    where
      by_cases : (a b : Bool) → xor (a || b) b ≡ cond b false a
      by_cases true true = refl
      by_cases true false = refl
      by_cases false true = refl
      by_cases false false = refl
