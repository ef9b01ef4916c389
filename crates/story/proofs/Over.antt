-- Laws of `over`: bytes v written over a list l from place i on, where they fit.
use mathlib.Core.List.{List, ◌++◌}
use mathlib.Core.Path.{◌≡◌, refl, sym, ap, ◌∙◌}
use Prim.Native.Nat.{ℕ, ◌+◌, ◌-◌, ◌≤◌}
use native.Mathlib.Omega.{arith}
use lib.ListN.{length, take, drop, length-append, length-drop, take-append-drop}
use lib.Seq.{length-take-le, take-append-le, drop-append-le, drop-append-add, drop-drop, take_at, drop_at}
use Rattle.machine.specs.Reply.{over}

module _ (l : List ℕ) (i : ℕ) (v : List ℕ) (fits : i + length v ≤ length l) where
  front : length (take i l) ≡ i
  front = length-take-le i l (omega arith)

  pub over-length : length (over l i v) ≡ length l
  unfolding over
  over-length =
      length-append (take i l) (v ++ drop (i + length v) l)
      ∙ omega (arith, front, length-append v (drop (i + length v) l), length-drop (i + length v) l)

  -- what was written
  pub over-here : take (length v) (drop i (over l i v)) ≡ v
  unfolding over
  over-here = ap (take (length v)) (drop_at (take i l) (v ++ drop (i + length v) l) i front) ∙ take_at v (drop (i + length v) l) (length v) refl

  -- a part before it
  module _ (j n : ℕ) (before : j + n ≤ i) where
    part_front : (m : List ℕ) → take n (drop j (take i l ++ m)) ≡ take n (drop j (take i l))
    part_front m =
        ap (take n) (drop-append-le j (take i l) m (omega (arith, front)))
        ∙ take-append-le n (drop j (take i l)) m (omega (arith, front, length-drop j (take i l)))

    pub over-before : take n (drop j (over l i v)) ≡ take n (drop j l)
    unfolding over
    over-before = part_front (v ++ drop (i + length v) l) ∙ sym (part_front (drop i l)) ∙ ap (λ (x : List ℕ). take n (drop j x)) (take-append-drop i l)

  -- all that stands behind it
  pub over-after : (j : ℕ) → i + length v ≤ j → drop j (over l i v) ≡ drop j l
  unfolding over
  over-after j after =
      let m = j - (i + length v) in
      let e : j ≡ length (take i l) + (length v + m) = omega (arith, front) in
      let f : i + length v + m ≡ j = omega arith in
      ap (λ (k : ℕ). drop k (take i l ++ (v ++ drop (i + length v) l))) e
      ∙ drop-append-add (take i l) (v ++ drop (i + length v) l) (length v + m)
      ∙ drop-append-add v (drop (i + length v) l) m
      ∙ drop-drop m (i + length v) l
      ∙ ap (λ (k : ℕ). drop k l) f

  pub over-behind : (j n : ℕ) → i + length v ≤ j → take n (drop j (over l i v)) ≡ take n (drop j l)
  over-behind j n after = ap (take n) (over-after j after)
