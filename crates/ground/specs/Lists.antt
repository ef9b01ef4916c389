-- Laws of lists.
use Rattle.std.specs.Prelude.{List, [], ◌∷◌, ◌≡◌, ℕ, zero, suc, ◌<◌, length, get_or, set}
use Rattle.std.proofs.Common.{not-suc-le-zero, le_of_suc-le-suc, arith}

-- what holds of each element holds after one is changed
pub set_all : {A : Type 0} (P : ℕ → A → Type 0) (l : List A) (d : A) (i : ℕ) (a : A) → i < length l →
    ((j : ℕ) → (j ≡ i → ⊥) → P j (get_or l j d)) → P i a → (j : ℕ) → P j (get_or (set l i a) j d)
set_all P [] d i a l h g j = absurd (not-suc-le-zero l)
set_all P (x ∷ xs) d zero a l h g zero = g
set_all P (x ∷ xs) d zero a l h g (suc j) = h (suc j) (λ e. omega arith)
set_all P (x ∷ xs) d (suc i) a l h g zero = h zero (λ e. omega arith)
set_all P (x ∷ xs) d (suc i) a l h g (suc j) =
    set_all (λ k. P (suc k)) xs d i a (le_of_suc-le-suc l) (λ k ne. h (suc k) (λ e. ne (omega arith))) g j
