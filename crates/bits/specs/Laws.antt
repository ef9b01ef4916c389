-- Laws of sets, for the layers above: what a change does, searches of sets that agree, and what the last member says of the word.
use Rattle.std.specs.Prelude.{Bool, ◌≡◌, ℕ, zero, suc, ◌+◌, ◌/◌, ◌^◌, ◌<◌, ◌≤◌, leb, ltb}
use Rattle.std.proofs.Math.Path.{refl}
use Rattle.std.proofs.Common.{sym, ◌∙◌, lt_of_lt_of_le, pow-suc, arith, eq-eqb, ne_eqb, le-leb, lt-ltb, le-ltb, pow_mono, pow_pos}
use Rattle.std.proofs.Math.Decide.{dec_lt}
use Rattle.std.proofs.Math.Nat.{div-eq_of_lt, div-eq_of_lt-le}
use Rattle.std.proofs.lemmas.Bool.{lt-leb}
use Rattle.bits.specs.Members.{last_below, members, put}
use Rattle.ground.specs.Range.{first_from}

module _ (i : ℕ) (t : Bool) (s : ℕ → Bool) where
  pub put-here : put i t s i ≡ t
  unfolding put
  put-here = rw (eq-eqb i i refl) refl

  pub put_other : (j : ℕ) → (j ≡ i → ⊥) → put i t s j ≡ s j
  unfolding put
  put_other j ne = rw (ne_eqb j i ne) refl

-- sets that agree on a range have the same first member there
pub first_same : (s t : ℕ → Bool) (i k : ℕ) → ((j : ℕ) → i ≤ j → j < i + k → s j ≡ t j) → first_from s i k ≡ first_from t i k
unfolding first_from
first_same s t i zero h = refl
first_same s t i (suc k) h = rw (h i (omega arith) (omega arith), first_same s t (suc i) k (λ j l g. h j (omega arith) (omega arith))) refl

-- the last member of a word of k digits is below n exactly if the word is below 2 ^ n
pub last_size : (w k n : ℕ) → w < 2 ^ k → leb (last_below (members w) k) n ≡ ltb w (2 ^ n)
unfolding last_below members
last_size w zero n h = le-leb 0 n (omega arith) ∙ sym (lt-ltb w (2 ^ n) (omega (arith, pow_pos n)))
last_size w (suc k) n h = go (last_size w k n) (dec_lt w (2 ^ k)) (dec_lt k n)
  where
    one : 2 ^ k ≤ w → w / 2 ^ k ≡ 1
    one b = div-eq_of_lt-le (2 ^ k) (omega arith) (omega (arith, pow-suc 2 k))

    go : (w < 2 ^ k → leb (last_below (members w) k) n ≡ ltb w (2 ^ n)) → Dec (w < 2 ^ k) → Dec (k < n) →
        leb (last_below (members w) (suc k)) n ≡ ltb w (2 ^ n)
    go below (yes b) d = rw (div-eq_of_lt b) (below b)
    go below (no b) (yes l) = rw (one (omega arith)) (le-leb (suc k) n l ∙ sym (lt-ltb w (2 ^ n) (lt_of_lt_of_le h (pow_mono l))))
    go below (no b) (no l) =
        let p : 2 ^ n ≤ 2 ^ k = pow_mono (omega arith) in
        rw (one (omega arith)) (lt-leb (suc k) n (omega arith) ∙ sym (le-ltb w (2 ^ n) (omega arith)))
