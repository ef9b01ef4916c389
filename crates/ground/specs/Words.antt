-- Laws of words: what a word says of the bytes that it was read from, and of a range that begins or ends with them.
use Rattle.std.specs.Prelude.{Bool, false, ◌&&◌, List, ◌≡◌, eqb, ltb, get_or}
use Rattle.std.proofs.Math.Bool.{and-true, and-false}
use Rattle.std.proofs.Math.Path.{refl, sym, ap}
use Rattle.std.proofs.Common.{◌∙◌, add-zero, pow-add, pow_pos}
use Prim.Native.Nat.{ℕ, zero, suc, ◌+◌, ◌*◌, ◌-◌, ◌^◌, ◌<◌, ◌≤◌}
use Rattle.std.proofs.Math.Decide.{dec_le}
use Rattle.std.proofs.Math.Nat.{add-suc}
use native.Mathlib.Omega.{arith}
use borrow.Author.Tests.{eq-eqb, eqb-true, lt-ltb, ltb-true, ne_eqb}
use Rattle.ground.specs.Bools.{and_both, and_left, and_right, same_test}
use Rattle.ground.specs.Bytes.{blank}
use Rattle.ground.specs.Every.{every_cut, every_done}
use Rattle.ground.specs.Range.{every_from}
use Rattle.ground.specs.Word.{Word, word_bytes}

-- a number and its lowest byte
zero-byte : (b n : ℕ) → eqb (b + 256 * n) 0 ≡ (eqb b 0 && eqb n 0)
zero-byte b n =
    same_test _ _
    (λ t. let e = eqb-true (b + 256 * n) 0 t in and_both _ _ (eq-eqb b 0 (omega arith)) (eq-eqb n 0 (omega arith)))
    (λ t. eq-eqb (b + 256 * n) 0 (omega (arith, eqb-true b 0 (and_left (eqb b 0) (eqb n 0) t), eqb-true n 0 (and_right (eqb b 0) (eqb n 0) t))))

below_one : (n : ℕ) → ltb n 1 ≡ eqb n 0
below_one n = same_test _ _ (λ t. eq-eqb n 0 (omega (arith, ltb-true n 1 t))) (λ t. lt-ltb n 1 (omega (arith, eqb-true n 0 t)))

byte_off : (b n k : ℕ) → b < 256 → ltb (b + 256 * n) (2 ^ (8 * suc k)) ≡ ltb n (2 ^ (8 * k))
byte_off b n k h =
    let e : 8 * suc k ≡ 8 + 8 * k = omega arith in
    let p : 2 ^ (8 * suc k) ≡ 256 * 2 ^ (8 * k) = ap (λ d. 2 ^ d) e ∙ pow-add 2 8 (8 * k) in
    same_test _ _
    (λ t. lt-ltb n (2 ^ (8 * k)) (omega (arith, ltb-true (b + 256 * n) (2 ^ (8 * suc k)) t)))
    (λ t. lt-ltb (b + 256 * n) (2 ^ (8 * suc k)) (omega (arith, ltb-true n (2 ^ (8 * k)) t)))

abbrev pub zero-at : List ℕ → ℕ → Bool
zero-at s j = eqb (get_or s j 0) 0

module _ (s : List ℕ) (i : ℕ) where
  -- the m bytes from i + k on are the number w, the first byte the least
  data Number : ℕ → ℕ → ℕ → Type 0 where
    none : {k : ℕ} → Number k 0 0
    byte : {k m w : ℕ} → get_or s (i + k) 0 < 256 → Number (suc k) m w → Number k (suc m) (get_or s (i + k) 0 + 256 * w)

  number : (w : ℕ) → Word s i w → Number 0 word_bytes w
  number w r =
      let h = r.small in
      let n = byte {k = 0} (rw (add-zero i) h.0) (byte h.1 (byte h.2 (byte h.3 (byte h.4 (byte h.5 (byte h.6 (byte h.7 none))))))) in
      rw r.is (rw (add-zero i, add-zero (get_or s (i + 7) 0)) at n)

  all_zero : {k m w : ℕ} → Number k m w → every_from (zero-at s) (i + k) m ≡ eqb w 0
  unfolding every_from
  all_zero none = refl
  all_zero (byte {k} {m} {w} h n) = rw (zero-byte (get_or s (i + k) 0) w, ← all_zero n, add-suc i k) refl

  -- the number without its first d bytes
  zero-from : (d : ℕ) {k m w : ℕ} → Number k m w → every_from (zero-at s) (i + k + d) (m - d) ≡ ltb w (2 ^ (8 * d))
  unfolding every_from
  zero-from zero {k} {m} {w} n =
      let e : m - 0 ≡ m = omega arith in
      rw (add-zero (i + k), e, below_one w) (all_zero n)
  zero-from (suc d) none =
      let e : 0 - suc d ≡ 0 = omega arith in
      rw (e, lt-ltb 0 (2 ^ (8 * suc d)) (pow_pos (8 * suc d))) refl
  zero-from (suc d) (byte {k} {m} {w} h n) =
      let a : i + k + suc d ≡ i + suc k + d = omega arith in
      let b : suc m - suc d ≡ m - d = omega arith in
      rw (a, b, byte_off (get_or s (i + k) 0) w d h) (zero-from d n)

module _ (s : List ℕ) (i w : ℕ) (r : Word s i w) where
  word_zero : blank s i (i + word_bytes) ≡ eqb w 0
  unfolding blank
  word_zero =
      let e : i + word_bytes - i ≡ word_bytes = omega arith in
      rw e (rw (add-zero i) at (all_zero s i (number s i w r)))

  -- the bytes of the word from k on
  pub word_from : (k : ℕ) → i ≤ k → blank s k (i + word_bytes) ≡ ltb w (2 ^ (8 * (k - i)))
  unfolding blank
  word_from k h =
      let a : i + word_bytes - k ≡ word_bytes - (k - i) = omega arith in
      let b : i + 0 + (k - i) ≡ k = omega arith in
      rw a (rw b at (zero-from s i (k - i) (number s i w r)))

  -- a range that begins with the word
  begins : (e : ℕ) → i + word_bytes ≤ e → blank s i e ≡ (eqb w 0 && blank s (i + word_bytes) e)
  unfolding blank
  begins e h = every_cut (zero-at s) i (i + word_bytes) e (omega arith) h ∙ ap (λ t. t && blank s (i + word_bytes) e) word_zero

  pub begins_zero : (e : ℕ) → i + word_bytes ≤ e → w ≡ 0 → blank s i e ≡ blank s (i + word_bytes) e
  begins_zero e h z = begins e h ∙ rw (eq-eqb w 0 z) refl

  pub begins_other : (e : ℕ) → i + word_bytes ≤ e → (w ≡ 0 → ⊥) → blank s i e ≡ false
  begins_other e h z = begins e h ∙ rw (ne_eqb w 0 z) refl

  -- a range that ends with the word
  ends : (k : ℕ) → k ≤ i → blank s k (i + word_bytes) ≡ (blank s k i && eqb w 0)
  unfolding blank
  ends k h = every_cut (zero-at s) k i (i + word_bytes) h (omega arith) ∙ ap (λ t. blank s k i && t) word_zero

  pub ends_zero : (k : ℕ) → w ≡ 0 → blank s k (i + word_bytes) ≡ blank s k i
  unfolding blank
  ends_zero k z = go (dec_le k i)
    where
      go : Dec (k ≤ i) → blank s k (i + word_bytes) ≡ blank s k i
      go (yes h) = ends k h ∙ rw (eq-eqb w 0 z) (and-true (blank s k i))
      go (no h) =
          word_from k (omega arith)
          ∙ lt-ltb w (2 ^ (8 * (k - i))) (rw z (pow_pos (8 * (k - i))))
          ∙ sym (every_done (zero-at s) k i (omega arith))

  pub ends_other : (k : ℕ) → k ≤ i → (w ≡ 0 → ⊥) → blank s k (i + word_bytes) ≡ false
  ends_other k h z = ends k h ∙ rw (ne_eqb w 0 z) (and-false (blank s k i))
