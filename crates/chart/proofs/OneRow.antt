-- A row: it says its answer and is sound; a sound row is the row of its answer.
use mathlib.Core.Bool.{Bool, true, false, ◌&&◌, ◌||◌}
use mathlib.Core.List.{List, [], ◌∷◌, ◌++◌, append_assoc}
use mathlib.Core.Path.{◌≡◌, refl, sym, ap, ◌∙◌}
use Prim.Native.Nat.{ℕ, zero, suc, ◌+◌, ◌-◌, ◌≤◌, ◌<◌}
use native.Mathlib.Decide.{dec_lt}
use native.Mathlib.Omega.{arith}
use borrow.Author.Tests.{eq-eqb, ne_eqb, le-leb, eqb-true, leb-true}
use lib.Dec.{eqb, leb}
use lib.ListN.{length, get_or, take, drop, replicate, length-drop, length-replicate, get_or-append, get_or-eq_default}
use lib.Seq.{ext_get_or, get_or-append-add, get_or-drop, get_or-take, length-take-le, take_at}
use Rattle.ground.specs.Bools.{and_left, and_right, same_test}
use Rattle.ground.specs.Bytes.{blank, padded}
use Rattle.ground.specs.Every.{every_all, every-at, every_cut}
use Rattle.ground.specs.Padding.{get_or-padded, length-padded, padded_short, zeros-at}
use Rattle.ground.specs.Range.{every_from}
use Rattle.chart.specs.Chart.{among, states}
use Rattle.chart.specs.Flags.{Flags, is_open}
use Rattle.chart.specs.Flat.{row_of, sound, flag_at, answer_of, zeros, readable}
use Rattle.chart.specs.Numbers.{Edition, Plain, Guarded, most_states, most_flag, most_actions, flag_byte, row_size}
use Rattle.chart.specs.Step.{Answer}
use Rattle.chart.proofs.Accepted.{Accepted, Good, among_of, few}
use Rattle.chart.proofs.Rows.{row-length}

module _ (f : ℕ) (r : Answer) where
  head : (get_or (row_of f r) 0 0 ≡ r.next) × (get_or (row_of f r) 1 0 ≡ r.outcome) × (get_or (row_of f r) 2 0 ≡ length r.acts)
  unfolding row_of
  head = (refl, refl, refl)

  -- the bytes behind the actions
  tail : (j : ℕ) → get_or (row_of f r) (flag_byte + j) 0 ≡ get_or (f ∷ 0 ∷ 0 ∷ []) j 0
  unfolding row_of
  tail j =
      let a = padded most_actions r.acts in
      let l = length-padded most_actions r.acts in
      let q : flag_byte + j ≡ suc (suc (suc (length a + j))) = omega arith in
      rw q (get_or-append-add a (f ∷ 0 ∷ 0 ∷ []) j 0)

  pub flag_at_lem : flag_at (row_of f r) ≡ f
  flag_at_lem = tail 0

  module _ (h : length r.acts ≤ most_actions) where
    row_is : row_of f r ≡ r.next ∷ r.outcome ∷ length r.acts ∷ (r.acts ++ (replicate (most_actions - length r.acts) 0 ++ (f ∷ 0 ∷ 0 ∷ [])))
    unfolding row_of
    row_is = rw (padded_short most_actions r.acts h, append_assoc)

    pub answer_of_lem : answer_of (row_of f r) ≡ r
    unfolding answer_of
    answer_of_lem = rw row_is (ap (λ l. record { next = r.next; outcome = r.outcome; acts = l }) (take_at r.acts _ (length r.acts) refl))

    unused : (j : ℕ) → 3 + length r.acts ≤ j → j < flag_byte → get_or (row_of f r) j 0 ≡ 0
    unused j l u =
        let i = j - 3 - length r.acts in
        let q : j ≡ suc (suc (suc (length r.acts + i))) = omega arith in
        rw (row_is, q)
        (get_or-append-add r.acts _ i 0 ∙ get_or-append (replicate (most_actions - length r.acts) 0) _ 0 i (rw length-replicate (omega arith))
        ∙ zeros-at (most_actions - length r.acts) i)

    row-sound : (e : Edition) → 1 ≤ r.next → r.next ≤ most_states e → r.outcome ≤ 2 → f ≤ most_flag e → sound e (row_of f r) ≡ true
    unfolding sound among blank every_from
    row-sound e a b c g =
        let acts = every_all (λ j. eqb (get_or (row_of f r) j 0) 0) (3 + length r.acts) flag_byte (λ j l u. eq-eqb _ 0 (unused j l u)) in
        rw (
          eq-eqb (length (row_of f r)) row_size (row-length f r),
          head.0,
          head.1,
          head.2,
          flag_at_lem,
          tail 1,
          tail 2,
          le-leb 1 r.next a,
          le-leb r.next (most_states e) b,
          le-leb r.outcome 2 c,
          le-leb (length r.acts) most_actions h,
          le-leb f (most_flag e) g,
          acts,
        )

-- an answer of an accepted chart, with a flag of its edition, makes a sound row
pub good_sound : {e : Edition} {d : List ℕ} → Accepted e d → (f : ℕ) (r : Answer) → Good d r → f ≤ most_flag e → sound e (row_of f r) ≡ true
good_sound {e} {d} acc f r h g =
    let n = (few e (states d) d acc.forms).1 in
    let u = h.rests.high in
    row-sound f r h.few e h.rests.low (omega arith) h.outcome g

-- what a sound row has
pub record Sound (e : Edition) (r : List ℕ) : Type 0 where
  pub whole : length r ≡ row_size
  pub next : (1 ≤ get_or r 0 0) × (get_or r 0 0 ≤ most_states e)
  pub outcome : get_or r 1 0 ≤ 2
  pub count : get_or r 2 0 ≤ most_actions
  pub unused : blank r (3 + get_or r 2 0) flag_byte ≡ true
  pub flag : flag_at r ≤ most_flag e
  pub ends : blank r (flag_byte + 1) row_size ≡ true

pub sound-is : (e : Edition) (r : List ℕ) → sound e r ≡ true → Sound e r
unfolding sound
sound-is e r s =
    let s₁ = and_right (eqb (length r) row_size) _ s in
    let s₂ = and_right (among (most_states e) (get_or r 0 0)) _ s₁ in
    let s₃ = and_right (leb (get_or r 1 0) 2) _ s₂ in
    let s₄ = and_right (leb (get_or r 2 0) most_actions) _ s₃ in
    let s₅ = and_right (blank r (3 + get_or r 2 0) flag_byte) _ s₄ in
    record {
      whole = eqb-true _ _ (and_left _ _ s);
      next = among_of _ _ (and_left _ _ s₁);
      outcome = leb-true _ _ (and_left _ _ s₂);
      count = leb-true _ _ (and_left _ _ s₃);
      unused = and_left _ _ s₄;
      flag = leb-true _ _ (and_left _ _ s₅);
      ends = and_right (leb (flag_at r) (most_flag e)) _ s₅;
    }

-- it is the row of its answer
module _ (e : Edition) (r : List ℕ) (s : Sound e r) where
  abbrev pub acts : List ℕ
  acts = take (get_or r 2 0) (drop 3 r)

  pub acts-length : length acts ≡ get_or r 2 0
  acts-length = length-take-le (get_or r 2 0) (drop 3 r) (omega (arith, length-drop 3 r, s.whole, s.count))

  act : (i : ℕ) → i < most_actions → get_or acts i 0 ≡ get_or r (3 + i) 0
  act i h = go (dec_lt i (get_or r 2 0))
    where
      go : Dec (i < get_or r 2 0) → get_or acts i 0 ≡ get_or r (3 + i) 0
      go (yes l) = get_or-take _ (drop 3 r) i 0 l ∙ get_or-drop 3 r i 0
      go (no l) =
          get_or-eq_default acts 0 (omega (arith, acts-length))
          ∙ sym (eqb-true _ 0 (every-at (λ j. eqb (get_or r j 0) 0) (3 + get_or r 2 0) flag_byte (3 + i) (unfold blank in s.unused) (omega arith) (omega arith)))

  last : (j : ℕ) → flag_byte + 1 ≤ j → j < row_size → 0 ≡ get_or r j 0
  last j l u = sym (eqb-true _ 0 (every-at (λ j. eqb (get_or r j 0) 0) (flag_byte + 1) row_size j (unfold blank in s.ends) l u))

  ends : (j : ℕ) → j < 3 → get_or (row_of (flag_at r) (answer_of r)) (flag_byte + j) 0 ≡ get_or r (flag_byte + j) 0
  ends zero h = tail (flag_at r) (answer_of r) 0
  ends (suc zero) h = tail (flag_at r) (answer_of r) 1 ∙ last (flag_byte + 1) (omega arith) (omega arith)
  ends (suc (suc zero)) h = tail (flag_at r) (answer_of r) 2 ∙ last (flag_byte + 2) (omega arith) (omega arith)
  ends (suc (suc (suc j))) h = absurd (omega arith)

  byte : (j : ℕ) → j < row_size → get_or (row_of (flag_at r) (answer_of r)) j 0 ≡ get_or r j 0
  unfolding row_of answer_of
  byte zero h = refl
  byte (suc zero) h = refl
  byte (suc (suc zero)) h = acts-length
  byte (suc (suc (suc i))) h = go (dec_lt i most_actions)
    where
      go : Dec (i < most_actions) → get_or (row_of (flag_at r) (answer_of r)) (suc (suc (suc i))) 0 ≡ get_or r (suc (suc (suc i))) 0
      go (yes l) =
          let q : suc (suc (suc i)) ≡ 3 + i = omega arith in
          get_or-append (padded most_actions acts) _ 0 i (omega (arith, length-padded most_actions acts)) ∙ get_or-padded most_actions acts i l ∙ rw q (act i l)
      go (no l) = let q : suc (suc (suc i)) ≡ flag_byte + (i - most_actions) = omega arith in rw q (ends (i - most_actions) (omega arith))

  pub row_of_answer : row_of (flag_at r) (answer_of r) ≡ r
  row_of_answer = ext_get_or 0 _ r (row-length _ _ ∙ sym s.whole) (λ j l. byte j (omega (arith, row-length (flag_at r) (answer_of r))))

pub sound_reads : (e : Edition) (r : List ℕ) → sound e r ≡ true → readable e r ≡ true
unfolding readable
sound_reads Plain r s = s
sound_reads Guarded r s = rw s

-- a plain row's bytes behind its actions are all 0
pub plain_from : (r : List ℕ) (k : ℕ) → k ≤ flag_byte → blank r k row_size ≡ (blank r k flag_byte && (leb (flag_at r) (most_flag Plain) && blank r (flag_byte + 1) row_size))
unfolding blank every_from
plain_from r k h = every_cut (λ j. eqb (get_or r j 0) 0) k flag_byte row_size h (omega arith) ∙ rw (none (flag_at r)) refl
  where
    none : (f : ℕ) → leb f 0 ≡ eqb f 0
    none f = same_test _ _ (λ t. eq-eqb f 0 (omega (arith, leb-true f 0 t))) (λ t. le-leb f 0 (omega (arith, eqb-true f 0 t)))

-- a row with a next state is not all 0
pub not_zeros : (r : List ℕ) → 1 ≤ get_or r 0 0 → zeros r ≡ false
unfolding blank every_from
not_zeros r h = rw (ne_eqb (get_or r 0 0) 0 (λ z. omega arith))

-- a row that may be read and is not all 0 is sound
pub readable-sound : (e : Edition) (r : List ℕ) → readable e r ≡ true → zeros r ≡ false → sound e r ≡ true
unfolding readable
readable-sound Plain r h z = h
readable-sound Guarded r h z = go (sound Guarded r) (rw z at h)
  where
    go : (b : Bool) → (b || false) ≡ true → b ≡ true
    go true h = refl
    go false h = h

-- a sound row of a plain table is not all 0, and open whichever flags are up
pub plain_open : (is_up : Flags) (r : List ℕ) → sound Plain r ≡ true → (zeros r ≡ false) × (is_open is_up (flag_at r) ≡ true)
plain_open is_up r s =
    let w = sound-is Plain r s in
    let z = w.flag in
    (not_zeros r w.next.0, rw (eq-eqb (flag_at r) 0 (omega arith)) refl)
