-- Laws of `count_from`: of tests that agree on a range, of one that passes whatever another does, of one that passes everything.
use Rattle.std.specs.Prelude.{Bool, true, false, cond, ◌≡◌, refl, ℕ, zero, suc, ◌+◌, ◌<◌, ◌≤◌}
use Rattle.std.proofs.Common.{arith}
use Rattle.ground.specs.Range.{count_from}

pub count_same : (p q : ℕ → Bool) (i k : ℕ) → ((j : ℕ) → i ≤ j → j < i + k → p j ≡ q j) → count_from p i k ≡ count_from q i k
unfolding count_from
count_same p q i zero h = refl
count_same p q i (suc k) h = rw (h i (omega arith) (omega arith), count_same p q (suc i) k (λ j l g. h j (omega arith) (omega arith))) refl

one_more : (a b : Bool) → (a ≡ true → b ≡ true) → cond a 1 0 ≤ cond b 1 0
one_more true b h = rw (h refl) (omega arith)
one_more false b h = omega arith

pub count-more : (p q : ℕ → Bool) (i k : ℕ) → ((j : ℕ) → i ≤ j → j < i + k → p j ≡ true → q j ≡ true) → count_from p i k ≤ count_from q i k
unfolding count_from
count-more p q i zero h = omega arith
count-more p q i (suc k) h =
    let here = one_more (p i) (q i) (h i (omega arith) (omega arith)) in
    let there = count-more p q (suc i) k (λ j l g. h j (omega arith) (omega arith)) in
    omega arith

pub count_all : (p : ℕ → Bool) (i k : ℕ) → ((j : ℕ) → i ≤ j → j < i + k → p j ≡ true) → count_from p i k ≡ k
unfolding count_from
count_all p i zero h = refl
count_all p i (suc k) h = rw (h i (omega arith) (omega arith), count_all p (suc i) k (λ j l g. h j (omega arith) (omega arith))) (omega arith)
