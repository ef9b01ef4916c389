-- The rows of an accepted chart for a state and signal, read in order, answer as the nested step does.
use mathlib.Core.Bool.{Bool, true, false, cond, ◌&&◌, ◌||◌}
use mathlib.Core.List.{List, [], ◌∷◌}
use mathlib.Core.Path.{◌≡◌, refl, sym, ◌∙◌}
use Prim.Native.Nat.{ℕ, zero, suc, ◌≤◌}
use native.Mathlib.Omega.{arith}
use borrow.Author.Tests.{eq-eqb}
use lib.Dec.{eqb}
use lib.ListN.{length, get_or}
use Rattle.ground.specs.Bools.{no_yes, or_right, cond_pick}
use Rattle.ground.specs.Bytes.{blank}
use Rattle.ground.specs.Range.{every_from, tab, tab_from}
use Rattle.ground.specs.Tab.{tab-cons}
use Rattle.chart.specs.Chart.{among, has, has_row, flag_of, outward}
use Rattle.chart.specs.Flags.{Flags, is_open}
use Rattle.chart.specs.Flat.{row_of, rows_out, behind, sound, zeros, taken, readable, all_read}
use Rattle.chart.specs.Held.{open_row}
use Rattle.chart.specs.Numbers.{Edition, Plain, Guarded, each, levels, most_actions}
use Rattle.chart.specs.Step.{Answer, ignored, first_of, answer_by, step}
use Rattle.chart.proofs.Accepted.{Accepted, State, ignored_good, path-length, row-answer, row-flag}
use Rattle.chart.proofs.OneRow.{answer_of_lem, flag_at_lem, good_sound, not_zeros, sound-is, sound_reads}

-- The rows rs, read at rest x, give a; each that is read may be read.
pub record Reads (e : Edition) (is_up : Flags) (x : ℕ) (rs : List (List ℕ)) (a : Answer) : Type 0 where
  pub gives : taken is_up x rs ≡ a
  pub fits : all_read e is_up rs ≡ true

module _ (e : Edition) (is_up : Flags) (x : ℕ) where
  -- one row: taken if it is open, else the others are read
  read-row : (f : ℕ) (a b : Answer) (rs : List (List ℕ)) → length a.acts ≤ most_actions → sound e (row_of f a) ≡ true
      → (is_open is_up f ≡ false → Reads e is_up x rs b)
      → Reads e is_up x (row_of f a ∷ rs) (cond (is_open is_up f) a b)
  unfolding taken all_read
  read-row f a b rs few s next = go (is_open is_up f) refl
    where
      some : zeros (row_of f a) ≡ false
      some = not_zeros (row_of f a) (sound-is e (row_of f a) s).next.0

      go : (o : Bool) → is_open is_up f ≡ o → Reads e is_up x (row_of f a ∷ rs) (cond o a b)
      go true q = record {
        gives = rw (some, flag_at_lem f a, q, answer_of_lem f a few);
        fits = rw (sound_reads e (row_of f a) s, some, flag_at_lem f a, q);
      }
      go false q = record {
        gives = rw (some, flag_at_lem f a, q) (next q).gives;
        fits = rw (sound_reads e (row_of f a) s, some, flag_at_lem f a, q) (next q).fits;
      }

  -- more rows behind, where b means ignored
  module _ (b : List ℕ) (ends : (rs : List (List ℕ)) → Reads e is_up x (b ∷ rs) (ignored x)) where
    same_more : (l : List (List ℕ)) (n : ℕ) → length l ≤ n → let rs = tab (λ i. get_or l i b) n in (taken is_up x rs ≡ taken is_up x l) × (all_read e is_up rs ≡ all_read e is_up l)
    unfolding taken all_read
    same_more [] zero h = unfold tab_from in (refl, refl)
    same_more [] (suc n) h = let w = ends (tab (λ i. b) n) in rw (tab-cons {A = List ℕ} (λ i. b) n) (w.gives, w.fits)
    same_more (y ∷ l) zero h = absurd (omega arith)
    same_more (y ∷ l) (suc n) h =
        let w = same_more l n (omega arith) in
        rw (tab-cons (λ i. get_or (y ∷ l) i b) n, w.0, w.1) (refl, refl)

    pub read_more : (l : List (List ℕ)) (n : ℕ) (a : Answer) → length l ≤ n → Reads e is_up x l a → Reads e is_up x (tab (λ i. get_or l i b) n) a
    read_more l n a h r = let w = same_more l n h in record { gives = w.0 ∙ r.gives; fits = w.1 ∙ r.fits }

-- ## An accepted chart's rows
-- what stands behind them means ignored
behind_reads : (e : Edition) (d : List ℕ) → Accepted e d → (is_up : Flags) (x : ℕ) → State d x → (rs : List (List ℕ)) → Reads e is_up x (behind e x ∷ rs) (ignored x)
unfolding behind
behind_reads Plain d acc is_up x h rs =
    read-row Plain is_up x 0 (ignored x) (ignored x) rs (omega arith) (good_sound acc 0 (ignored x) (ignored_good d acc x h) (omega arith)) (λ q. no_yes (sym q))
behind_reads Guarded d acc is_up x h rs = unfold taken all_read readable blank every_from sound among in record { gives = refl; fits = refl }

-- There is room for them: as many as the states outward, and one where no row has a flag.
out_more : (d : List ℕ) (x g s : ℕ) (p : List ℕ) (n : ℕ) → length (rows_out d x g p) ≤ n → length (rows_out d x g (s ∷ p)) ≤ suc n
unfolding rows_out
out_more d x g s p n h =
    cond_pick (λ (l : List (List ℕ)). length l ≤ suc n) (has_row d g s) _ _
    (λ q. cond_pick (λ (l : List (List ℕ)). suc (length l) ≤ suc n) (eqb (flag_of d g s) 0) _ _ (λ z. omega arith) (λ z. omega arith))
    (λ q. omega arith)

out_most : (d : List ℕ) (x g : ℕ) (p : List ℕ) → length (rows_out d x g p) ≤ length p
out_most d x g [] = unfold rows_out in omega arith
out_most d x g (s ∷ p) = out_more d x g s p (length p) (out_most d x g p)

out_one : (d : List ℕ) → Accepted Plain d → (x g : ℕ) (p : List ℕ) → length (rows_out d x g p) ≤ 1
unfolding rows_out
out_one d acc x g [] = omega arith
out_one d acc x g (s ∷ p) =
    cond_pick (λ (l : List (List ℕ)). length l ≤ 1) (has_row d g s) _ _
    (λ q. rw (eq-eqb (flag_of d g s) 0 (let z = row-flag d acc s g q in omega arith)) (omega arith))
    (λ q. out_one d acc x g p)

few_rows : (e : Edition) (d : List ℕ) → Accepted e d → (x g : ℕ) → length (rows_out d x g (outward d x)) ≤ each e
few_rows Plain d acc x g = out_one d acc x g (outward d x)
few_rows Guarded d acc x g = omega (arith, out_most d x g (outward d x), path-length d levels x)

closed : (a b : Bool) → (a || b) ≡ false → a ≡ false
closed true b e = e
closed false b e = refl

cond_ap : {A B : Type 0} (f : A → B) (t : Bool) (x y : A) → cond t (f x) (f y) ≡ f (cond t x y)
cond_ap f true x y = refl
cond_ap f false x y = refl

module _ {e : Edition} (d : List ℕ) (acc : Accepted e d) (is_up : Flags) (x g : ℕ) (h : State d x) where
  -- the first that is open is that of the source
  reads_out : (p : List ℕ) → ((s : ℕ) → has s p ≡ true → has s (outward d x) ≡ true) → Reads e is_up x (rows_out d x g p) (answer_by d x g (first_of (open_row d is_up g) p))
  unfolding rows_out first_of has
  reads_out [] on = unfold taken all_read answer_by in record { gives = refl; fits = refl }
  reads_out (s ∷ p) on = go (reads_out p (λ t i. on t (or_right (eqb s t) (has t p) i))) (has_row d g s) refl
    where
      f : ℕ
      f = flag_of d g s

      later : ℕ
      later = first_of (open_row d is_up g) p

      go : Reads e is_up x (rows_out d x g p) (answer_by d x g later) → (b : Bool) → has_row d g s ≡ b
          → Reads e is_up x (cond b (row_of f (answer_by d x g s) ∷ cond (eqb f 0) [] (rows_out d x g p)) (rows_out d x g p)) (answer_by d x g (cond (b && is_open is_up f) s later))
      go ih false q = ih
      go ih true q =
          let a = row-answer d acc x g s h (on s (rw (eq-eqb s s refl) refl)) q in
          rw (← cond_ap (answer_by d x g) (is_open is_up f) s later)
          (read-row e is_up x f (answer_by d x g s) (answer_by d x g later) _ a.few (good_sound acc f (answer_by d x g s) a (row-flag d acc s g q))
          (λ o. rw (closed (eqb f 0) (is_up f) o) ih))

  -- the rows of the table for x and g answer as the step does
  pub reads : Reads e is_up x (tab (λ i. get_or (rows_out d x g (outward d x)) i (behind e x)) (each e)) (step d is_up x g)
  unfolding step
  reads = read_more e is_up x (behind e x) (behind_reads e d acc is_up x h) (rows_out d x g (outward d x)) (each e) _ (few_rows e d acc x g) (reads_out (outward d x) (λ s i. i))
