-- Laws of feeding a piece, byte by byte, until one completes a frame.
use Rattle.std.proofs.Common.{◌≡◌, ℕ, suc, ◌+◌, ◌<◌, ◌≤◌, true, false, cond, eqb, List, [], ◌∷◌, length, get_or, take, drop, Option, Some, None, sym, refl, ap, ◌∙◌, append-nil, add-one, arith, drop_of_length-le, drop-cons, take-suc}
use Rattle.std.specs.Prelude.{is_some}
use Rattle.ground.specs.Bools.{no_yes}
use Rattle.frame.specs.Reading.{State, Frame, given, after, given_all, after_all, read_to, Feeds}
use Rattle.frame.specs.View.{frames_told}
use Rattle.frame.specs.declared.reader.Frame.{Frame as Told}
use Rattle.frame.specs.declared.reader.Reader.{Reader}
use Rattle.frame.proofs.Cutting.{Quiet, quiet_none, given_then, after_then}

-- What is answered of a byte: one frame or none.
module _ (r : Reader) where
  pub told_one : (o : Option Told) → is_some o ≡ true → length (frames_told r o) ≡ 1
  unfolding frames_told
  told_one (Some f) h = refl
  told_one None h = no_yes h

  pub told_none : (o : Option Told) → is_some o ≡ false → frames_told r o ≡ []
  unfolding frames_told
  told_none (Some f) h = no_yes (sym h)
  told_none None h = refl

-- Readers with the same bytes tell the same.
pub told_alike : (r q : Reader) (o : Option Told) → r.bytes ≡ q.bytes → frames_told r o ≡ frames_told q o
unfolding frames_told
told_alike r q (Some f) e = rw e refl
told_alike r q None e = refl

-- Of the piece l, fed in the state s, i bytes are read, which complete nothing and lead to the state now.
pub record SoFar (s : State) (l : List ℕ) (i : ℕ) (now : State) : Type 0 where
  pub quiet : Quiet s (take i l) now
  pub left : read_to s l ≡ i + read_to now (drop i l)

pub so_far_start : (s : State) (l : List ℕ) → SoFar s l 0 s
so_far_start s l = record { quiet = quiet_none s; left = omega arith }

-- One byte more.
module _ (s : State) (l : List ℕ) (i : ℕ) (now : State) (q : SoFar s l i now) (h : i < length l) where
  abbrev byte : ℕ
  byte = get_or l i 0

  turn-after : after_all s (take (i + 1) l) ≡ after now byte
  unfolding after_all
  turn-after = rw (add-one, take-suc l i 0 h) (after_then s now (take i l) (byte ∷ []) q.quiet)

  turn-given : given_all s (take (i + 1) l) ≡ given now byte
  unfolding given_all
  turn-given = rw (add-one, take-suc l i 0 h) (given_then s now (take i l) (byte ∷ []) q.quiet ∙ append-nil (given now byte))

  turn-left : read_to now (drop i l) ≡ cond (eqb (length (given now byte)) 0) (suc (read_to (after now byte) (drop (i + 1) l))) 1
  unfolding read_to
  turn-left = rw (drop-cons l i 0 h, add-one) refl

  module _ (next : State) (a : next ≡ after now byte) (frames : List Frame) (g : frames ≡ given now byte) where
    -- which completes nothing
    pub so_far_turn : frames ≡ [] → SoFar s l (i + 1) next
    so_far_turn e =
        let none : given now byte ≡ [] = sym g ∙ e in
        let left : read_to now (drop i l) ≡ suc (read_to (after now byte) (drop (i + 1) l)) = turn-left ∙ rw none refl in
        rw a (record { quiet = record { nothing = turn-given ∙ none; then = turn-after }; left = omega (arith, q.left, left) })

    -- or a frame
    pub so_far_frame : length frames ≡ 1 → Feeds s l (i + 1) frames next
    so_far_frame e =
        let one : length (given now byte) ≡ 1 = sym (ap length g) ∙ e in
        let left : read_to now (drop i l) ≡ 1 = turn-left ∙ rw one refl in
        record { bytes = omega (arith, q.left, left); handed = g ∙ sym turn-given; then = a ∙ sym turn-after }

-- the whole piece
pub so_far_end : (s : State) (l : List ℕ) (now : State) → SoFar s l (length l) now → Feeds s l (length l) [] now
unfolding read_to
so_far_end s l now q =
    let whole : length l ≤ length l = omega arith in
    let z : read_to now (drop (length l) l) ≡ 0 = rw (drop_of_length-le l whole) refl in
    record { bytes = omega (arith, q.left, z); handed = sym q.quiet.nothing; then = sym q.quiet.then }
