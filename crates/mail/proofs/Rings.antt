-- What a store does to a ring's entries.
use mathlib.Core.List.{List, []}
use mathlib.Core.Path.{◌≡◌, refl, sym, ap}
use Prim.Native.Nat.{ℕ, suc, ◌+◌, ◌-◌, ◌<◌, ◌≤◌}
use native.Mathlib.Numerals.{add-one}
use native.Mathlib.Omega.{arith}
use lib.ListN.{length, get_or, set, drop, length-drop}
use lib.Seq.{ext_get_or, get_or-drop, get_or-set_same, get_or-set_other}
use Rattle.ground.specs.Range.{tab, tab_from}
use Rattle.ground.specs.Tab.{length-tab, get_or-tab, tab_ext, tab-cons, tab-snoc}
use Rattle.mail.specs.Box.{room, behind, ahead, bare}
use Rattle.mail.specs.Counted.{entries_length}
use Rattle.mail.specs.Inside.{place_of, one_back, on_by, entry_at, ring, entries}
use Rattle.mail.specs.declared.Ring.{Ring}

module _ (pl : List ℕ) (h n : ℕ) where
  module _ (e : ℕ) (l : room ≤ length pl) (k : n < room) where
    pub ring-back : ring (set pl (place_of h n) e) h (n + 1) ≡ behind e (ring pl h n)
    unfolding ring behind
    ring-back =
        let new : entry_at (set pl (place_of h n) e) h n ≡ e = get_or-set_same pl (place_of h n) e 0 (omega arith) in
        let old : tab (entry_at (set pl (place_of h n) e) h) n ≡ tab (entry_at pl h) n =
        tab_ext _ _ n (λ i j. get_or-set_other pl (place_of h n) (place_of h i) e 0 (λ z. omega arith)) in
        rw (add-one, tab-snoc, new, old) refl

    pub ring-front : ring (set pl (one_back h) e) (one_back h) (n + 1) ≡ ahead e (ring pl h n)
    unfolding ring ahead
    ring-front =
        let h' = one_back h in
        let here : place_of h' 0 ≡ h' = omega arith in
        let new : entry_at (set pl h' e) h' 0 ≡ e = rw here (get_or-set_same pl h' e 0 (omega arith)) in
        let old : tab (λ i. entry_at (set pl h' e) h' (suc i)) n ≡ tab (entry_at pl h) n =
        tab_ext _ _ n (λ i j.
        let on : place_of h' (suc i) ≡ place_of h i = omega arith in
        rw on (get_or-set_other pl h' (place_of h i) e 0 (λ z. omega arith))) in
        rw (add-one, tab-cons, new, old) refl

  pub ring-length : length (ring pl h n) ≡ n
  unfolding ring
  ring-length = length-tab (entry_at pl h) n

  pub ring_entry : (i : ℕ) → i < n → get_or (ring pl h n) i 0 ≡ entry_at pl h i
  unfolding ring
  ring_entry i k = get_or-tab (entry_at pl h) n i 0 k

-- the first k entries leave where the head moves k places on
pub ring-drop : (pl : List ℕ) (h n k : ℕ) → ring pl (on_by h k) (n - k) ≡ drop k (ring pl h n)
ring-drop pl h n k = ext_get_or 0 _ _ (rw (ring-length, length-drop, ring-length) refl) each
  where
    each : (i : ℕ) → i < length (ring pl (on_by h k) (n - k)) → get_or (ring pl (on_by h k) (n - k)) i 0 ≡ get_or (drop k (ring pl h n)) i 0
    each i l =
        let left : i < n - k = omega (arith, ring-length pl (on_by h k) (n - k)) in
        let on : place_of (on_by h k) i ≡ place_of h (k + i) = omega arith in
        rw (get_or-drop, ring_entry pl (on_by h k) (n - k) i left, ring_entry pl h n (k + i) (omega arith)) (ap (λ (x : ℕ). get_or pl x 0) on)

pub ring_none : (pl : List ℕ) (h : ℕ) → ring pl h 0 ≡ []
unfolding ring tab_from
ring_none pl h = refl

module _ (r : Ring) where
  pub back_is : (p e : ℕ) → p ≡ place_of r.head r.count → room ≤ length r.places → r.count < room →
      entries (record { places = set r.places p e; head = r.head; count = r.count + 1 }) ≡ behind e (entries r)
  unfolding entries
  back_is p e z l k = rw z (ring-back r.places r.head r.count e l k)

  pub front_is : (p e : ℕ) → p ≡ one_back r.head → room ≤ length r.places → r.count < room →
      entries (record { places = set r.places p e; head = p; count = r.count + 1 }) ≡ ahead e (entries r)
  unfolding entries
  front_is p e z l k = rw z (ring-front r.places r.head r.count e l k)

  pub entry_is : (i : ℕ) → i < length (entries r) → entry_at r.places r.head i ≡ get_or (entries r) i 0
  unfolding entries
  entry_is i l = sym (ring_entry r.places r.head r.count i (omega (arith, entries_length r)))

  pub left_is : (n : ℕ) → entries (record { places = r.places; head = on_by r.head n; count = r.count - n }) ≡ drop n (entries r)
  unfolding entries
  left_is n = ring-drop r.places r.head r.count n

pub cleared_is : (pl : List ℕ) (h : ℕ) (l : List ℕ) → entries (record { places = pl; head = h; count = 0 }) ≡ bare l
unfolding entries bare
cleared_is pl h l = ring_none pl h

pub fresh_is : (pl : List ℕ) (h : ℕ) → entries (record { places = pl; head = h; count = 0 }) ≡ []
unfolding entries
fresh_is pl h = ring_none pl h

-- what the code of a ring does to its entries
pub ruleset ring_laws = (entries_length, fresh_is, back_is, front_is, entry_is, left_is, cleared_is)
