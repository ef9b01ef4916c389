-- What the code finds in a table: one turn of its reading, and what it tells of the rows.
use mathlib.Core.Bool.{Bool, true, false, cond, ◌&&◌, ◌||◌}
use mathlib.Core.List.{List, ◌∷◌}
use mathlib.Core.Path.{◌≡◌, refl, sym, ap, ◌∙◌}
use Prim.Native.Nat.{ℕ, zero, suc, ◌+◌, ◌-◌, ◌*◌, ◌≤◌, ◌<◌}
use native.Mathlib.Omega.{arith}
use lib.ListN.{take, drop}
use Rattle.ground.specs.Bools.{no_yes, or_right}
use Rattle.ground.specs.Range.{tab, tab_from}
use Rattle.ground.specs.Tab.{tab-cons, tab_ext}
use Rattle.chart.specs.Flags.{Flags, is_open}
use Rattle.chart.specs.Flat.{place, row_at, rows_at, sound, flag_at, answer_of, zeros, taken, readable, all_read}
use Rattle.chart.specs.Held.{reading, answer_at, is_sound}
use Rattle.chart.specs.Numbers.{Edition, Plain, Guarded, each, first_signal, row_size, signal_count}
use Rattle.chart.specs.Step.{Answer, ignored}
use Rattle.chart.specs.declared.Reading.{Reading}
use Rattle.chart.specs.declared.Reading.TheVariants.{Taken, Ignored, Unsound}
use Rattle.chart.proofs.Laws.{sub_more, sub_none}
use Rattle.chart.proofs.OneRow.{plain_open, readable-sound}

-- a row as the code cuts it out
pub row_cut : (t : List ℕ) (at : ℕ) → take (at + row_size - at) (drop at t) ≡ row_at t at
row_cut t at = let q : at + row_size - at ≡ row_size = omega arith in rw q refl

module _ (is_up : Flags) (t : List ℕ) (at : ℕ) (r : List ℕ) (cut : r ≡ row_at t at) where
  -- of a plain table one row is read, and taken if it is sound
  pub one-taken : sound Plain r ≡ true → reading Plain is_up t at (each Plain) ≡ Taken at
  unfolding reading readable
  one-taken s = let w = plain_open is_up r s in rw (← cut, s, w.0, w.1) refl

  pub one-unsound : sound Plain r ≡ false → reading Plain is_up t at (each Plain) ≡ Unsound
  unfolding reading readable
  one-unsound s = rw (← cut, s) refl

  -- of a guarded table: row i of n
  module _ (i n : ℕ) (h : i < n) where
    pub turn-zeros : zeros r ≡ true → reading Guarded is_up t at (n - i) ≡ Ignored
    unfolding reading readable
    turn-zeros z = rw (sub_more i n h, ← cut, or_right (sound Guarded r) _ z, z)

    module _ (z : zeros r ≡ false) where
      pub turn-unsound : sound Guarded r ≡ false → reading Guarded is_up t at (n - i) ≡ Unsound
      unfolding reading readable
      turn-unsound s = rw (sub_more i n h, ← cut, s, z)

      pub turn-taken : sound Guarded r ≡ true → is_open is_up (flag_at r) ≡ true → reading Guarded is_up t at (n - i) ≡ Taken at
      unfolding reading readable
      turn-taken s o = rw (sub_more i n h, ← cut, s, z, o)

      pub turn-next : sound Guarded r ≡ true → is_open is_up (flag_at r) ≡ false
          → reading Guarded is_up t at (n - i) ≡ reading Guarded is_up t (at + row_size) (n - (i + 1))
      unfolding reading readable
      turn-next s o = rw (sub_more i n h, ← cut, s, z, o)

pub turn_done : (is_up : Flags) (t : List ℕ) (at i n : ℕ) → n ≤ i → reading Guarded is_up t at (n - i) ≡ Ignored
unfolding reading
turn_done is_up t at i n h = rw (sub_none i n h)

-- what it tells is what the definitions say of the rows
module _ (e : Edition) (is_up : Flags) (t : List ℕ) where
  abbrev rows : ℕ → ℕ → List (List ℕ)
  rows at k = tab (λ i. row_at t (at + row_size * i)) k

  rows-cons : (at k : ℕ) → rows at (suc k) ≡ row_at t at ∷ rows (at + row_size) k
  rows-cons at k =
      let z : at + row_size * 0 ≡ at = omega arith in
      tab-cons (λ i. row_at t (at + row_size * i)) k
      ∙ rw z (ap (λ l. row_at t at ∷ l) (tab_ext _ _ k (λ i l. ap (row_at t) (on i))))
    where
      on : (i : ℕ) → at + row_size * suc i ≡ at + row_size + row_size * i
      on i = omega arith

  turn-sound : (a b c : Bool) (at : ℕ) (v : Reading) (w : Bool) → is_sound v ≡ w → is_sound (cond a (cond b Ignored (cond c (Taken at) v)) Unsound) ≡ (a && (b || (c || w)))
  unfolding is_sound
  turn-sound false b c at v w h = refl
  turn-sound true true c at v w h = refl
  turn-sound true false true at v w h = refl
  turn-sound true false false at v w h = h

  turn-gives : (x : ℕ) (a b c : Bool) (at : ℕ) (v : Reading) (w : Answer) → (is_sound v ≡ true → answer_at t x v ≡ w)
      → is_sound (cond a (cond b Ignored (cond c (Taken at) v)) Unsound) ≡ true
      → answer_at t x (cond a (cond b Ignored (cond c (Taken at) v)) Unsound) ≡ cond b (ignored x) (cond c (answer_of (row_at t at)) w)
  unfolding is_sound answer_at
  turn-gives x false b c at v w h s = no_yes s
  turn-gives x true true c at v w h s = refl
  turn-gives x true false true at v w h s = refl
  turn-gives x true false false at v w h s = h s

  sound-suc : (k at : ℕ) → is_sound (reading e is_up t (at + row_size) k) ≡ all_read e is_up (rows (at + row_size) k) → is_sound (reading e is_up t at (suc k)) ≡ all_read e is_up (rows at (suc k))
  unfolding reading all_read
  sound-suc k at h = rw (rows-cons at k) (turn-sound (readable e (row_at t at)) (zeros (row_at t at)) (is_open is_up (flag_at (row_at t at))) at _ _ h)

  gives-suc : (x k at : ℕ) → (is_sound (reading e is_up t (at + row_size) k) ≡ true → answer_at t x (reading e is_up t (at + row_size) k) ≡ taken is_up x (rows (at + row_size) k))
      → is_sound (reading e is_up t at (suc k)) ≡ true → answer_at t x (reading e is_up t at (suc k)) ≡ taken is_up x (rows at (suc k))
  unfolding reading taken
  gives-suc x k at h s = rw (rows-cons at k) (turn-gives x (readable e (row_at t at)) (zeros (row_at t at)) (is_open is_up (flag_at (row_at t at))) at _ _ h s)

  from-sound : (k at : ℕ) → is_sound (reading e is_up t at k) ≡ all_read e is_up (rows at k)
  from-sound zero at = unfold reading is_sound all_read tab_from in refl
  from-sound (suc k) at = sound-suc k at (from-sound k (at + row_size))

  from_gives : (x k at : ℕ) → is_sound (reading e is_up t at k) ≡ true → answer_at t x (reading e is_up t at k) ≡ taken is_up x (rows at k)
  from_gives x zero at s = unfold reading answer_at taken tab_from in refl
  from_gives x (suc k) at s = gives-suc x k at (from_gives x k (at + row_size)) s

  -- the rows for a state and signal follow each other
  rows_placed : (s g : ℕ) → rows_at e t s g ≡ rows (place e s g 0) (each e)
  unfolding place
  rows_placed s g = tab_ext _ _ (each e) (λ i l. ap (row_at t) (on (each e * (signal_count * (s - 1) + (g - first_signal))) i))
    where
      on : (m i : ℕ) → row_size + row_size * (m + i) ≡ row_size + row_size * (m + 0) + row_size * i
      on m i = omega arith

  module _ (s g : ℕ) where
    pub reading-sound : is_sound (reading e is_up t (place e s g 0) (each e)) ≡ all_read e is_up (rows_at e t s g)
    reading-sound = from-sound (each e) (place e s g 0) ∙ ap (all_read e is_up) (sym (rows_placed s g))

    pub reading-gives : (x : ℕ) → is_sound (reading e is_up t (place e s g 0) (each e)) ≡ true
        → answer_at t x (reading e is_up t (place e s g 0) (each e)) ≡ taken is_up x (rows_at e t s g)
    reading-gives x h = from_gives x (each e) (place e s g 0) h ∙ ap (taken is_up x) (sym (rows_placed s g))

-- a row that is taken is sound, and one of those that are read
module _ (e : Edition) (is_up : Flags) (t : List ℕ) (n : ℕ) where
  abbrev Whole : ℕ → Type 0
  Whole end = (sound e (row_at t n) ≡ true) × (n + row_size ≤ end)

  turn-row : (a b c : Bool) (at end : ℕ) (v : Reading)
      → (a ≡ true → b ≡ false → sound e (row_at t at) ≡ true)
      → at + row_size ≤ end
      → (v ≡ Taken n → Whole end)
      → cond a (cond b Ignored (cond c (Taken at) v)) Unsound ≡ Taken n → Whole end
  turn-row false b c at end v f l g q = absurd (let z : ◌≡◌ {A = ℕ} 0 1 = cc in omega arith)
  turn-row true true c at end v f l g q = absurd (let z : ◌≡◌ {A = ℕ} 0 1 = cc in omega arith)
  turn-row true false true at end v f l g q = let z : at ≡ n = cc in rw (← z) (f refl refl, l)
  turn-row true false false at end v f l g q = g q

  row-suc : (k at : ℕ) → (reading e is_up t (at + row_size) k ≡ Taken n → Whole (at + row_size + row_size * k)) → reading e is_up t at (suc k) ≡ Taken n → Whole (at + row_size * suc k)
  unfolding reading
  row-suc k at h q =
      let r = row_at t at in
      turn-row (readable e r) (zeros r) (is_open is_up (flag_at r)) at (at + row_size * suc k) _ (readable-sound e r) (omega arith)
      (λ later. let w = h later in (w.0, omega (arith, w.1))) q

  pub reading-row : (k at : ℕ) → reading e is_up t at k ≡ Taken n → (sound e (row_at t n) ≡ true) × (n + row_size ≤ at + row_size * k)
  reading-row zero at q = absurd (unfold reading in let z : ◌≡◌ {A = ℕ} 0 1 = cc in omega arith)
  reading-row (suc k) at q = row-suc k at (reading-row k (at + row_size)) q
