-- Laws of `tab`: its length, its elements, one more of them, and how it changes where its function does.
use mathlib.Core.List.{List, [], ◌∷◌, ◌++◌}
use Rattle.std.specs.Prelude.{◌≡◌, length, get_or, set, replicate}
use Rattle.std.proofs.Math.Path.{refl, sym, ap}
use Rattle.std.proofs.Common.{◌∙◌, zero-add, add-suc, suc-add, le_of_suc-le-suc, not-suc-le-zero, length-set, ext_get_or, get_or-set_same, get_or-set_other}
use Prim.Native.Nat.{ℕ, zero, suc, ◌+◌, ◌<◌, ◌≤◌}
use Rattle.std.proofs.Math.Decide.{ℕ_discrete}
use Rattle.std.proofs.Math.Nat.{add-zero}
use native.Mathlib.Omega.{arith}
use Rattle.std.proofs.Math.ListN.{get_or-eq_default}
use Rattle.ground.specs.Range.{tab, tab_from}

module _ {A : Type 0} where
  length_from : (f : ℕ → A) (i k : ℕ) → length (tab_from f i k) ≡ k
  unfolding tab_from
  length_from f i zero = refl
  length_from f i (suc k) = ap suc (length_from f (suc i) k)

  pub length-tab : (f : ℕ → A) (n : ℕ) → length (tab f n) ≡ n
  length-tab f n = length_from f 0 n

  get_or-from : (f : ℕ → A) (i k j : ℕ) (d : A) → j < k → get_or (tab_from f i k) j d ≡ f (i + j)
  unfolding tab_from
  get_or-from f i zero j d h = absurd (not-suc-le-zero h)
  get_or-from f i (suc k) zero d h = rw add-zero refl
  get_or-from f i (suc k) (suc j) d h = get_or-from f (suc i) k j d (le_of_suc-le-suc h) ∙ ap f (suc-add i j ∙ sym (add-suc i j))

  pub get_or-tab : (f : ℕ → A) (n j : ℕ) (d : A) → j < n → get_or (tab f n) j d ≡ f j
  get_or-tab f n j d h = get_or-from f 0 n j d h ∙ ap f (zero-add j)

  pub get_or-tab_out : (f : ℕ → A) (n j : ℕ) (d : A) → n ≤ j → get_or (tab f n) j d ≡ d
  get_or-tab_out f n j d h = get_or-eq_default (tab f n) d (omega (arith, length-tab f n))

  -- a list that agrees with another at every place but b
  pub tab-set : (f g : ℕ → A) (n b : ℕ) (a : A) → b < n → g b ≡ a → ((j : ℕ) → j < n → (j ≡ b → ⊥) → g j ≡ f j) → tab g n ≡ set (tab f n) b a
  tab-set f g n b a hb here there = ext_get_or a _ _ (length-tab g n ∙ sym (length-set (tab f n) b a ∙ length-tab f n)) each
    where
      each : (j : ℕ) → j < length (tab g n) → get_or (tab g n) j a ≡ get_or (set (tab f n) b a) j a
      each j h = go (ℕ_discrete j b)
        where
          in_range : j < n
          in_range = omega (arith, length-tab g n)

          go : Dec (j ≡ b) → get_or (tab g n) j a ≡ get_or (set (tab f n) b a) j a
          go (yes e) = get_or-tab g n j a in_range ∙ rw e (here ∙ sym (get_or-set_same (tab f n) b a a (omega (arith, length-tab f n))))
          go (no ne) = get_or-tab g n j a in_range ∙ there j in_range ne ∙ sym (get_or-set_other (tab f n) b j a a ne ∙ get_or-tab f n j a in_range)

  pub tab_constant : (f : ℕ → A) (i n : ℕ) (a : A) → ((j : ℕ) → f j ≡ a) → tab_from f i n ≡ replicate n a
  unfolding tab_from
  tab_constant f i zero a h = refl
  tab_constant f i (suc n) a h = rw (h i, tab_constant f (suc i) n a h) refl

  -- lists that agree at every place
  pub tab_ext : (f g : ℕ → A) (n : ℕ) → ((j : ℕ) → j < n → f j ≡ g j) → tab f n ≡ tab g n
  tab_ext f g n same = ext_get_or (f 0) _ _ (length-tab f n ∙ sym (length-tab g n)) each
    where
      each : (j : ℕ) → j < length (tab f n) → get_or (tab f n) j (f 0) ≡ get_or (tab g n) j (f 0)
      each j h = let l : j < n = omega (arith, length-tab f n) in get_or-tab f n j (f 0) l ∙ same j l ∙ sym (get_or-tab g n j (f 0) l)

  -- one more element, at the front and at the back
  from-shift : (f : ℕ → A) (i k : ℕ) → tab_from f (suc i) k ≡ tab_from (λ j. f (suc j)) i k
  unfolding tab_from
  from-shift f i zero = refl
  from-shift f i (suc k) = ap {B = List A} (λ r. f (suc i) ∷ r) (from-shift f (suc i) k)

  pub tab-cons : (f : ℕ → A) (n : ℕ) → tab f (suc n) ≡ f 0 ∷ tab (λ j. f (suc j)) n
  unfolding tab_from
  tab-cons f n = ap {B = List A} (λ r. f 0 ∷ r) (from-shift f 0 n)

  from-snoc : (f : ℕ → A) (i k : ℕ) → tab_from f i (suc k) ≡ tab_from f i k ++ (f (i + k) ∷ [])
  unfolding tab_from
  from-snoc f i zero = rw add-zero refl
  from-snoc f i (suc k) = let e : suc i + k ≡ i + suc k = omega arith in ap {B = List A} (λ r. f i ∷ r) (rw e at (from-snoc f (suc i) k))

  pub tab-snoc : (f : ℕ → A) (n : ℕ) → tab f (suc n) ≡ tab f n ++ (f n ∷ [])
  tab-snoc f n = rw zero-add at (from-snoc f 0 n)
