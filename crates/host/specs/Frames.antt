-- What a host is told of frames: of one that it writes, and of those that its reader hands out.
use Rattle.std.specs.Prelude.{cond, List, [], ◌∷◌, ◌≡◌, ℕ, ◌+◌, ◌<◌, ◌≤◌, eqb, length, replicate, take}
use Rattle.ground.specs.Bytes.{padded}
use Rattle.frame.specs.Reading.{Frame, Feeds, State, given_all}
use Rattle.frame.specs.Wire.{most_data}
use Rattle.frame.specs.Writing.{area_after, length_of, next_of, refused, written}

-- After a frame was written to an area, or refused: how many bytes it has, 0 exactly where it is refused; the number of the next; the area.
pub record Writes (out : List ℕ) (number kind : ℕ) (bytes : List ℕ) (size next : ℕ) (area : List ℕ) : Type 0 where
  pub size_is : size ≡ length_of (written (length out) number kind bytes)
  pub refusal : eqb size 0 ≡ refused (length out) number kind bytes
  pub next-is : next ≡ next_of number (written (length out) number kind bytes)
  pub area_is : area ≡ area_after out number kind bytes

-- Whether a frame was completed, its number, its record number, whether there is a gap before it, how many bytes its data have, and
-- these, with zeros behind them; zeros alone where none was.
unfoldable pub told_frame : List Frame → List ℕ
told_frame [] = replicate (5 + most_data) 0
told_frame (f ∷ l) = 1 ∷ f.number ∷ f.kind ∷ cond f.gap 1 0 ∷ length f.bytes ∷ padded most_data f.bytes

-- At most one frame, whose data have room: all of it is told.
unfoldable pub Whole : List Frame → Type 0
Whole [] = Unit {0}
Whole (f ∷ l) = (length f.bytes ≤ most_data) × (l ≡ [])

-- After a piece, of which so much was read: the frame that this completes is told.
pub record Reads (s : State) (piece : List ℕ) (read : ℕ) (frame : List ℕ) (next : State) : Type 0 where
  pub fed : Feeds s piece read (given_all s (take read piece)) next
  pub whole : Whole (given_all s (take read piece))
  pub told : frame ≡ told_frame (given_all s (take read piece))
  pub most : read ≤ length piece
  pub onward : 0 < length piece → 0 < read
