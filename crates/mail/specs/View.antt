-- The entries of rings, shut, and what holds of all such.
use mathlib.Core.List.{List, []}
use Rattle.std.specs.Prelude.{◌≡◌, refl, ℕ, zero, suc, ◌-◌, ◌<◌, replicate, set, drop}
use Rattle.std.proofs.Common.{arith}
use Rattle.std.proofs.Math.ListN.{length, get_or, get_or-map}
use Rattle.std.proofs.lemmas.List.{length-map, map-set}
use Rattle.ground.specs.Range.{tab_from}
use Rattle.mail.specs.Box.{box_at, changed, behind, ahead, rest, bare, push_back, push_front, took_front, took_first, emptied, highest}
use Rattle.mail.specs.Laws.{highest-is}
use Rattle.mail.specs.Inside.{ring}
use Rattle.mail.specs.declared.Ring.{Ring}
pub use Rattle.mail.specs.Inside.{boxes, entries}

-- A ring of zeros: what a place past the end of a list of rings reads as.
abbrev pub no_ring : Ring
no_ring = record { places = []; head = 0; count = 0 }

module _ (rings : List Ring) where
  pub boxes-length : length (boxes rings) ≡ length rings
  unfolding boxes
  boxes-length = length-map rings entries

  pub boxes_at : (q : ℕ) → box_at (boxes rings) q ≡ entries (get_or rings q no_ring)
  unfolding boxes entries ring tab_from
  boxes_at q = get_or-map entries rings q no_ring

  pub boxes_set : (q : ℕ) (r : Ring) → boxes (set rings q r) ≡ set (boxes rings) q (entries r)
  unfolding boxes
  boxes_set q r = map-set entries rings q r

  -- ring q is another, whose entries are f of what they were; the rest are as they were
  module _ (q : ℕ) (r : Ring) where
    pub boxes-changed : (f : List ℕ → List ℕ) → entries r ≡ f (entries (get_or rings q no_ring)) → boxes (set rings q r) ≡ changed f (boxes rings) q
    unfolding changed
    boxes-changed f e = rw (boxes_set q r, e, boxes_at q) refl

    pub pushed_back : (e : ℕ) → entries r ≡ behind e (entries (get_or rings q no_ring)) → boxes (set rings q r) ≡ push_back (boxes rings) q e
    pushed_back e = boxes-changed (behind e)

    pub pushed_front : (e : ℕ) → entries r ≡ ahead e (entries (get_or rings q no_ring)) → boxes (set rings q r) ≡ push_front (boxes rings) q e
    pushed_front e = boxes-changed (ahead e)

    pub front_taken : entries r ≡ rest (entries (get_or rings q no_ring)) → boxes (set rings q r) ≡ took_front (boxes rings) q
    front_taken = boxes-changed rest

    pub first_taken : (n : ℕ) → entries r ≡ drop n (entries (get_or rings q no_ring)) → boxes (set rings q r) ≡ took_first (boxes rings) q n
    first_taken n = boxes-changed (drop n)

    pub cleared : entries r ≡ bare (entries (get_or rings q no_ring)) → boxes (set rings q r) ≡ emptied (boxes rings) q
    cleared = boxes-changed bare

-- what `highest` finds, if anything, has mail
pub highest-mail : (rings : List Ring) (p : ℕ) → p ≡ highest (boxes rings) → 0 < p → 0 < length (entries (get_or rings (p - 1) no_ring))
highest-mail rings p e l =
    let found = highest-is (boxes rings) (length (boxes rings)) in
    rw (e, ← boxes_at rings (highest (boxes rings) - 1)) (found.has_mail (omega arith))

-- rings that are empty are empty mailboxes
pub boxes-fresh : (n : ℕ) (r : Ring) → entries r ≡ [] → boxes (replicate n r) ≡ replicate n []
unfolding boxes
boxes-fresh zero r e = refl
boxes-fresh (suc n) r e = rw (e, boxes-fresh n r e) refl
