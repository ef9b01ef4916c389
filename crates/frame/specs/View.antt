-- For the layers above: the state that a reader stands for, shut; the frame that was handed out; and bounds of what is answered.
use Rattle.std.specs.Prelude.{◌≡◌, ℕ, ◌<◌, ◌≤◌, List, [], ◌∷◌, Option, Some, None, length, take, drop}
use Rattle.frame.specs.Reading.{Frame}
use Rattle.frame.specs.declared.reader.Fed.{Fed}
use Rattle.frame.specs.declared.reader.Frame.{Frame as Told}
use Rattle.frame.specs.declared.reader.Reader.{Reader}
pub use Rattle.frame.specs.Inside.{state_of}

-- The frame that was completed, if any: its data are in the reader's bytes.
unfoldable pub frames_told : Reader → Option Told → List Frame
frames_told r None = []
frames_told r (Some f) = record { number = f.number; kind = f.kind; bytes = take f.size (drop 2 r.bytes); gap = f.gap } ∷ []

abbrev pub frames_of : Reader → Fed → List Frame
frames_of r f = frames_told r f.frame

-- What is answered beside the data of a frame says the whole of it; nothing where none was completed.
unfoldable pub Tells : Option Told → List Frame → Type 0
Tells None l = l ≡ []
Tells (Some f) [] = ⊥
Tells (Some f) (g ∷ l) = (f.number ≡ g.number) × (f.kind ≡ g.kind) × (f.size ≡ length g.bytes) × (f.gap ≡ g.gap) × (l ≡ [])

-- Of a piece no more is read than there is, and something where there is something; and what is answered tells of the frame.
pub record Within (piece : List ℕ) (r : Reader) (f : Fed) : Type 0 where
  pub most : f.read ≤ length piece
  pub onward : 0 < length piece → 0 < f.read
  pub rest : Tells f.frame (frames_of r f)
