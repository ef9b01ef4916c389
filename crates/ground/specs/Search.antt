-- Laws of `first_from`: one turn of a loop that searches, what is found, and that nothing else can be.
use Rattle.std.specs.Prelude.{Bool, true, false, cond, ◌≡◌}
use Rattle.std.proofs.Common.{⊎_elim, subst, eq-or-lt_of_le}
use Rattle.std.proofs.Math.Path.{refl}
use Prim.Native.Nat.{ℕ, zero, suc, ◌+◌, ◌-◌, ◌<◌, ◌≤◌}
use Rattle.std.proofs.Math.Decide.{dec_lt}
use Rattle.std.proofs.Math.Numerals.{add-one}
use native.Mathlib.Omega.{arith}
use Rattle.ground.specs.Range.{first_from}

-- r is the first of the k numbers from i on that passes the test, or i + k
pub record First (p : ℕ → Bool) (i k r : ℕ) : Type 0 where
  pub low : i ≤ r
  pub high : r ≤ i + k
  pub passes : r < i + k → p r ≡ true
  pub least : (j : ℕ) → i ≤ j → j < r → p j ≡ false

module _ (p : ℕ → Bool) where
  -- a search up to e, at i
  pub first_end : (i e : ℕ) → e ≤ i → first_from p i (e - i) ≡ i
  unfolding first_from
  first_end i e h = let z : e - i ≡ 0 = omega arith in rw z refl

  pub first_hit : (i e : ℕ) → i < e → p i ≡ true → first_from p i (e - i) ≡ i
  unfolding first_from
  first_hit i e h t = let z : e - i ≡ suc (e - (i + 1)) = omega arith in rw (z, t) refl

  pub first_miss : (i e : ℕ) → i < e → p i ≡ false → first_from p i (e - i) ≡ first_from p (i + 1) (e - (i + 1))
  unfolding first_from
  first_miss i e h t = let z : e - i ≡ suc (e - (i + 1)) = omega arith in rw (z, t, add-one i) refl

  at_or_later : (t : Bool) (i k : ℕ) → p i ≡ t → First p (suc i) k (first_from p (suc i) k) → First p i (suc k) (cond t i (first_from p (suc i) k))
  at_or_later true i k t f = record { low = omega arith; high = omega arith; passes = λ h. t; least = λ j l h. absurd (omega arith) }
  at_or_later false i k t f = record {
    low = omega (arith, f.low);
    high = omega (arith, f.high);
    passes = λ h. f.passes (omega arith);
    least = λ j l h. ⊎_elim (λ q. subst (λ (m : ℕ). p m ≡ false) q t) (λ lt. f.least j lt h) (eq-or-lt_of_le l);
  }

  pub first_is : (i k : ℕ) → First p i k (first_from p i k)
  unfolding first_from
  first_is i zero = record { low = omega arith; high = omega arith; passes = λ h. absurd (omega arith); least = λ j l h. absurd (omega arith) }
  first_is i (suc k) = at_or_later (p i) i k refl (first_is (suc i) k)

  -- what passes, with nothing below it that does, is found
  pub first_only : (i k r : ℕ) → i ≤ r → r < i + k → p r ≡ true → ((j : ℕ) → i ≤ j → j < r → p j ≡ false) → first_from p i k ≡ r
  first_only i k r l h t least = go (dec_lt (first_from p i k) r) (dec_lt r (first_from p i k))
    where
      f : First p i k (first_from p i k)
      f = first_is i k

      both : {j : ℕ} → p j ≡ true → p j ≡ false → ⊥
      both a b = let z : ◌≡◌ {A = ℕ} 0 1 = cc in omega arith

      go : Dec (first_from p i k < r) → Dec (r < first_from p i k) → first_from p i k ≡ r
      go (yes b) d = absurd (both (f.passes (omega arith)) (least (first_from p i k) f.low b))
      go (no b) (yes a) = absurd (both t (f.least r l a))
      go (no b) (no a) = omega arith
