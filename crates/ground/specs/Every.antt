-- Laws of `every`: one turn of a loop that tests each number of a range, what the whole says of one of them, and a range in two parts.
use Rattle.std.specs.Prelude.{Bool, true, false, ◌&&◌, ◌≡◌}
use Rattle.std.proofs.Math.Bool.{and_assoc}
use Rattle.std.proofs.Math.Logic.{⊎_elim}
use Rattle.std.proofs.Math.Path.{refl}
use Rattle.std.proofs.Common.{sym, zero-add}
use Prim.Native.Nat.{ℕ, zero, suc, ◌+◌, ◌-◌, ◌<◌, ◌≤◌}
use Rattle.std.proofs.Math.Nat.{add-suc, add-zero, suc-add}
use Rattle.std.proofs.Math.Numerals.{add-one}
use native.Mathlib.Omega.{arith}
use Rattle.ground.specs.Bools.{and_left, and_right, and_both, eq_or}
use Rattle.ground.specs.Range.{every, every_from}

module _ (p : ℕ → Bool) where
  pub every_done : (i e : ℕ) → e ≤ i → every p i e ≡ true
  unfolding every_from
  every_done i e h = let z : e - i ≡ 0 = omega arith in rw z refl

  pub every_pass : (i e : ℕ) → i < e → p i ≡ true → every p i e ≡ every p (i + 1) e
  unfolding every_from
  every_pass i e h t = let z : e - i ≡ suc (e - (i + 1)) = omega arith in rw (z, t, add-one i) refl

  pub every_fail : (i e : ℕ) → i < e → p i ≡ false → every p i e ≡ false
  unfolding every_from
  every_fail i e h t = let z : e - i ≡ suc (e - (i + 1)) = omega arith in rw (z, t) refl

  from_at : (i m k : ℕ) → every_from p i m ≡ true → i ≤ k → k < i + m → p k ≡ true
  unfolding every_from
  from_at i zero k e h g = absurd (omega arith)
  from_at i (suc m) k e h g =
      ⊎_elim
      (λ q. rw (← q) (and_left (p i) (every_from p (suc i) m) e))
      (λ q. from_at (suc i) m k (and_right (p i) (every_from p (suc i) m) e) (omega arith) (omega arith))
      (eq_or i k)

  pub every-at : (i e k : ℕ) → every p i e ≡ true → i ≤ k → k < e → p k ≡ true
  every-at i e k t h g = from_at i (e - i) k t h (omega arith)

  from_all : (i m : ℕ) → ((k : ℕ) → i ≤ k → k < i + m → p k ≡ true) → every_from p i m ≡ true
  unfolding every_from
  from_all i zero h = refl
  from_all i (suc m) h =
      and_both (p i) (every_from p (suc i) m) (h i (omega arith) (omega arith)) (from_all (suc i) m (λ k a b. h k (omega arith) (omega arith)))

  pub every_all : (i e : ℕ) → ((k : ℕ) → i ≤ k → k < e → p k ≡ true) → every p i e ≡ true
  every_all i e h = from_all i (e - i) (λ k a b. h k a (omega arith))

  from_cut : (i m n : ℕ) → every_from p i (m + n) ≡ (every_from p i m && every_from p (i + m) n)
  unfolding every_from
  from_cut i zero n = rw (zero-add n, add-zero i) refl
  from_cut i (suc m) n =
      rw (suc-add m n, add-suc i m, ← suc-add i m, from_cut (suc i) m n) (sym (and_assoc (p i) (every_from p (suc i) m) (every_from p (suc i + m) n)))

  pub every_cut : (i m e : ℕ) → i ≤ m → m ≤ e → every p i e ≡ (every p i m && every p m e)
  every_cut i m e h g =
      let a : e - i ≡ (m - i) + (e - m) = omega arith in
      let b : i + (m - i) ≡ m = omega arith in
      rw a (rw b at (from_cut i (m - i) (e - m)))
