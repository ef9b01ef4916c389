-- Laws of `padded`: its length, its elements, and a list that is no longer than that.
use Rattle.std.specs.Prelude.{List, [], ◌∷◌, ◌++◌, ◌≡◌, refl, ℕ, zero, suc, ◌+◌, ◌-◌, ◌<◌, ◌≤◌, length, get_or, take, replicate}
use Rattle.std.proofs.Common.{ap, ◌∙◌, arith, length-append, take_at, length-take-le, get_or-take}
use Rattle.std.proofs.lemmas.List.{length-replicate}
use Rattle.std.proofs.Math.Seq.{take-append-add}
use Rattle.ground.specs.Bytes.{padded}

pub length-padded : (k : ℕ) (l : List ℕ) → length (padded k l) ≡ k
unfolding padded
length-padded k l = length-take-le k (l ++ replicate k 0) (rw (length-append l (replicate k 0), length-replicate) (omega arith))

pub zeros-at : (k i : ℕ) → get_or {A = ℕ} (replicate k 0) i 0 ≡ 0
zeros-at zero i = refl
zeros-at (suc k) zero = refl
zeros-at (suc k) (suc i) = zeros-at k i

filled_at : (l : List ℕ) (k i : ℕ) → get_or (l ++ replicate k 0) i 0 ≡ get_or l i 0
filled_at [] k i = zeros-at k i
filled_at (x ∷ l) k zero = refl
filled_at (x ∷ l) k (suc i) = filled_at l k i

pub get_or-padded : (k : ℕ) (l : List ℕ) (i : ℕ) → i < k → get_or (padded k l) i 0 ≡ get_or l i 0
unfolding padded
get_or-padded k l i h = get_or-take _ _ _ _ h ∙ filled_at l k i

pub padded_whole : (k : ℕ) (l : List ℕ) → length l ≡ k → padded k l ≡ l
unfolding padded
padded_whole k l h = take_at l (replicate k 0) k h

take-replicate : (m n : ℕ) → m ≤ n → take {A = ℕ} m (replicate n 0) ≡ replicate m 0
take-replicate zero n h = refl
take-replicate (suc m) zero h = absurd (omega arith)
take-replicate (suc m) (suc n) h = ap (λ l. 0 ∷ l) (take-replicate m n (omega arith))

pub padded_short : (k : ℕ) (l : List ℕ) → length l ≤ k → padded k l ≡ l ++ replicate (k - length l) 0
unfolding padded
padded_short k l h =
    let e : k ≡ length l + (k - length l) = omega arith in
    ap (λ n. take n (l ++ replicate k 0)) e ∙ take-append-add l (replicate k 0) (k - length l)
    ∙ ap (λ m. l ++ m) (take-replicate (k - length l) k (omega arith))
