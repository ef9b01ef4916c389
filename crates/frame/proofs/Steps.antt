-- The frame that a reader's bytes are.
use Rattle.std.proofs.Common.{◌≡◌, ℕ, ◌+◌, ◌-◌, ◌%◌, ◌<◌, ◌≤◌, true, false, eqb, List, [], ◌∷◌, length, get_or, take, drop, refl, ◌∙◌, arith, length-take-le, get_or-take, take-take, take-add, drop_at, le-leb, eq-eqb, ne_eqb}
use borrow.Author.Tests.{lt-leb}
use Rattle.frame.specs.Reading.{Last, plain, front, fits, gap_at, frame, ended}
use Rattle.frame.specs.Wire.{sum, check_of}

-- The first n bytes of a list: whether they are a frame, and which.
module _ (s : List ℕ) (n : ℕ) (l : n ≤ length s) where
  part_length : length (take n s) ≡ n
  part_length = length-take-le n s l

  pub fits_short : n < 3 → fits (take n s) ≡ false
  unfolding fits
  fits_short h = rw (lt-leb 3 (length (take n s)) (omega (arith, part_length))) refl

  part_front : 3 ≤ n → front (take n s) ≡ take (n - 1) s
  unfolding front
  part_front h = rw part_length (take-take (n - 1) n s (omega arith))

  pub fits_long : 3 ≤ n → fits (take n s) ≡ eqb (get_or s (n - 1) 0) (check_of (take (n - 1) s))
  unfolding fits
  fits_long h = rw (le-leb 3 (length (take n s)) (omega (arith, part_length)), part_front h, part_length, get_or-take n s (n - 1) 0 (omega arith)) refl

  -- from the sum of all bytes but the last
  module _ (total : ℕ) (e : total ≡ sum (take (n - 1) s) % 256) (h : 3 ≤ n) where
    pub fits_checked : get_or s (n - 1) 0 ≡ 255 - total → fits (take n s) ≡ true
    unfolding check_of
    fits_checked c = fits_long h ∙ eq-eqb _ _ (rw e at c)

    pub fits_unchecked : (get_or s (n - 1) 0 ≡ 255 - total → ⊥) → fits (take n s) ≡ false
    unfolding check_of
    fits_unchecked c = fits_long h ∙ ne_eqb _ _ (rw e at c)

  part_data : 3 ≤ n → drop 2 (take (n - 1) s) ≡ take (n - 3) (drop 2 s)
  part_data h =
      let e : n - 1 ≡ 2 + (n - 3) = omega arith in
      rw (e, take-add 2 (n - 3) s) (drop_at (take 2 s) (take (n - 3) (drop 2 s)) 2 (length-take-le 2 s (omega arith)))

  pub whole_ended : (m : Last) → 3 ≤ n → fits (take n s) ≡ true →
      record { number = get_or s 0 0; kind = get_or s 1 0; bytes = take (n - 3) (drop 2 s); gap = gap_at m (get_or s 0 0) } ∷ [] ≡ ended (plain (take n s)) m
  unfolding ended frame
  whole_ended m k h = rw (h, part_front k, part_data k, get_or-take n s 0 0 (omega arith), get_or-take n s 1 0 (omega arith)) refl
