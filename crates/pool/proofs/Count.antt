-- What each operation makes of one block: of any, of one that is not in the set by its count.
use mathlib.Core.Bool.{Bool, true, false}
use mathlib.Core.Path.{◌≡◌, refl, sym, ap, ◌∙◌}
use Prim.Native.Nat.{ℕ, zero, suc, ◌+◌, ◌-◌, ◌<◌, ◌≤◌, min}
use native.Mathlib.Decide.{dec_lt}
use native.Mathlib.Omega.{arith}
use borrow.Author.Tests.{le-leb, lt-leb, ne_eqb}
use lib.Dec.{leb, eqb-suc-zero}
use Rattle.ground.specs.Bools.{cond_all}
use Rattle.pool.specs.Cell.{Cell, live, retired, last_generation, back, most_references, is_free, is_new, at_last, generation_of, handed_out, more, more_by, fewer, fewer_by, dropped}
use Rattle.pool.specs.Inside.{cell_of, went_back}
use Rattle.pool.specs.Laws.{fewer-back}

-- A block that is not in the set: live, or retired with a count above all that are counted.
abbrev pub used : ℕ → ℕ → Cell
used g n = cell_of g n false

module _ (g n : ℕ) where
  pub used_live : n ≤ most_references → used g n ≡ live g n
  unfolding cell_of
  used_live few = rw (le-leb n most_references few) refl

  pub used_retired : most_references < n → used g n ≡ retired g
  unfolding cell_of
  used_retired above = rw (lt-leb n most_references above) refl

  used_all : (P : Cell → Type 0) → P (live g n) → P (retired g) → P (used g n)
  unfolding cell_of
  used_all P l r = cond_all P (leb n most_references) l r

  pub free_is : (t : Bool) → is_free (cell_of g n t) ≡ t
  unfolding is_free cell_of
  free_is true = refl
  free_is false = used_all (λ c. is_free c ≡ false) refl refl

  pub generation-is : (t : Bool) → generation_of (cell_of g n t) ≡ g
  unfolding generation_of cell_of
  generation-is true = refl
  generation-is false = used_all (λ c. generation_of c ≡ g) refl refl

  pub handed_out_lem : (t : Bool) → handed_out (cell_of g n t) ≡ used g 0
  unfolding handed_out cell_of
  handed_out_lem t = rw (generation-is t) refl

  -- what goes back is retired at the last generation, and free sooner
  pub back_last : (t : Bool) (m : ℕ) → last_generation ≤ g → most_references < m → went_back (cell_of g n t) ≡ used g m
  unfolding went_back back cell_of
  back_last t m last above = rw (generation-is t, le-leb last_generation g last, lt-leb m most_references above) refl

  pub back_sooner : (t : Bool) → g < last_generation → went_back (cell_of g n t) ≡ cell_of (g + 1) n true
  unfolding went_back back cell_of
  back_sooner t sooner = rw (generation-is t, lt-leb last_generation g sooner) refl

  pub more_most : most_references ≤ n → more (used g n) ≡ used g n
  unfolding more
  more_most h = used_all (λ c. more c ≡ c) (rw (le-leb most_references n h) refl) refl

  pub more-one : n < most_references → more (used g n) ≡ used g (n + 1)
  unfolding more cell_of
  more-one h = rw (le-leb n most_references (omega arith), lt-leb most_references n h, le-leb (n + 1) most_references (omega arith)) refl

-- So many references more: of a block that stays as it is, and of one that is live.
pub more_still : (c : Cell) → more c ≡ c → (t : ℕ) → more_by t c ≡ c
unfolding more_by
more_still c e zero = refl
more_still c e (suc t) = ap more (more_still c e t) ∙ e

pub more_some : (g n : ℕ) → n < most_references → (t : ℕ) → more_by t (used g n) ≡ used g (min (n + t) most_references)
unfolding more_by
more_some g n few zero = ap (used g) (omega arith)
more_some g n few (suc t) = ap more (more_some g n few t) ∙ go (dec_lt (n + t) most_references)
  where
    held : ℕ
    held = min (n + t) most_references

    go : Dec (n + t < most_references) → more (used g held) ≡ used g (min (n + suc t) most_references)
    go (yes h) = more-one g held (omega arith) ∙ ap (used g) (omega arith)
    go (no h) = more_most g held (omega arith) ∙ ap (used g) (omega arith)

-- Letting go, by the count: nothing to let go, the last reference, a retired block, one of several references.
pub fewer_none : (g n : ℕ) → n ≡ 0 → (fewer (used g n) ≡ used g n) × (at_last (used g n) ≡ false)
unfolding fewer at_last cell_of
fewer_none g n e = (rw e refl, rw e refl)

pub fewer-last : (g n : ℕ) → n ≡ 1 → (went_back (used g n) ≡ fewer (used g n)) × (at_last (used g n) ≡ true)
unfolding went_back fewer at_last generation_of cell_of
fewer-last g n e = (rw e refl, rw e refl)

pub fewer_retired : (g n : ℕ) → most_references < n → (fewer (used g n) ≡ used g n) × (at_last (used g n) ≡ false)
unfolding fewer at_last
fewer_retired g n above = rw (used_retired g n above) (refl, refl)

pub fewer-one : (g n : ℕ) → (n ≡ 0 → ⊥) → (n ≡ 1 → ⊥) → n ≤ most_references → (fewer (used g n) ≡ used g (n - 1)) × (at_last (used g n) ≡ false)
unfolding fewer at_last
fewer-one g zero nz ne few = absurd (nz refl)
fewer-one g (suc zero) nz ne few = absurd (ne refl)
fewer-one g (suc (suc n)) nz ne few =
    let e : suc (suc n) - 1 ≡ suc n = omega arith in
    rw (e, used_live g (suc (suc n)) few, used_live g (suc n) (omega arith)) (refl, ne_eqb (suc (suc n)) 1 ne)

-- Letting go several times: never, of a block that stays as it is, of some of the references, of all of them.
pub by_none : (c : Cell) (t : ℕ) → t ≡ 0 → fewer_by t c ≡ c
unfolding fewer_by
by_none c t e = rw e refl

pub by_still : (c : Cell) → fewer c ≡ c → (t : ℕ) → fewer_by t c ≡ c
unfolding fewer_by
by_still c e zero = refl
by_still c e (suc t) = ap fewer (by_still c e t) ∙ e

module _ (g n : ℕ) (few : n ≤ most_references) where
  pub by_some : (t : ℕ) → t < n → fewer_by t (used g n) ≡ used g (n - t)
  unfolding fewer_by
  by_some zero h = ap (used g) (omega arith)
  by_some (suc t) h =
      let one = fewer-one g (n - t) (λ z. omega arith) (λ z. omega arith) (omega arith) in
      ap fewer (by_some t (omega arith)) ∙ one.0 ∙ ap (used g) (omega arith)

  pub by_all : (t : ℕ) → (n ≡ 0 → ⊥) → n ≤ t → went_back (used g n) ≡ fewer_by t (used g n)
  unfolding fewer_by went_back
  by_all zero nz h = absurd (nz (omega arith))
  by_all (suc t) nz h = go (dec_lt t n) (by_all t nz)
    where
      go : Dec (t < n) → (n ≤ t → went_back (used g n) ≡ fewer_by t (used g n)) → went_back (used g n) ≡ fewer (fewer_by t (used g n))
      go (yes k) sooner = rw (by_some t k, ← (fewer-last g (n - t) (omega arith)).0, generation-is g n, generation-is g (n - t)) refl
      go (no k) sooner = rw (← sooner (omega arith)) (sym (fewer-back _))

pub dropped-new : (g n : ℕ) → n ≡ 0 → (went_back (used g n) ≡ dropped (used g n)) × (is_new (used g n) ≡ true)
unfolding went_back dropped is_new generation_of cell_of
dropped-new g n e = (rw e refl, rw e refl)

pub dropped_none : (g n : ℕ) → (n ≡ 0 → ⊥) → (dropped (used g n) ≡ used g n) × (is_new (used g n) ≡ false)
unfolding dropped is_new
dropped_none g zero ne = absurd (ne refl)
dropped_none g (suc n) ne = used_all g (suc n) (λ c. (dropped c ≡ c) × (is_new c ≡ false)) (refl, eqb-suc-zero n) (refl, refl)
