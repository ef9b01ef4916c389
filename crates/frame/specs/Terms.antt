-- The words of the statements.
use Rattle.std.specs.Prelude.{◌≡◌, ℕ, ◌≤◌, false, ◌⊎◌, List, [], ◌∷◌, ◌++◌, length}
use Rattle.frame.specs.Reading.{Frame, Last, none, fresh, gap_at, frame, last_in, given_all}
use Rattle.frame.specs.Wire.{most_data, frame_bytes, following}

-- What is sent as one frame: a record number, and as many bytes of data as a frame may have.
pub record Sent : Type 0 where
  pub kind : ℕ
  pub bytes : List ℕ
  pub short : length bytes ≤ most_data

-- The bytes of frames as a writer writes them, one after the other, numbered on from n.
unfoldable pub stream : ℕ → List Sent → List ℕ
stream n [] = []
stream n (f ∷ l) = frame_bytes n f.kind f.bytes ++ stream (following n) l

-- These frames, handed out without a gap.
unfoldable pub as_sent : ℕ → List Sent → List Frame
as_sent n [] = []
as_sent n (f ∷ l) = record { number = n; kind = f.kind; bytes = f.bytes; gap = false } ∷ as_sent (following n) l

-- The same after a frame of the number m: the first of them tells a gap where its number does not follow.
unfoldable pub resumed : Last → ℕ → List Sent → List Frame
resumed m n [] = []
resumed m n (f ∷ l) = frame m n f.kind f.bytes ∷ as_sent (following n) l

-- A frame starts behind these bytes: there are none, or the last of them is 0x7E.
abbrev pub Starts : List ℕ → Type 0
Starts l = (l ≡ []) ⊎ ((q : List ℕ) × (l ≡ q ++ (0x7E ∷ [])))

-- The number of the last frame that these bytes hand out.
abbrev pub last_out : List ℕ → Last
last_out l = last_in none (given_all fresh l)

-- The bytes l end in t, which stands where a frame starts.
pub record EndsIn (l t : List ℕ) : Type 0 where
  pub before : List ℕ
  pub start : Starts before
  pub whole : l ≡ before ++ t

-- The frame f is the one that ends with byte b, behind the bytes l.
pub record Intact (l : List ℕ) (b : ℕ) (f : Frame) : Type 0 where
  pub bytes : EndsIn (l ++ (b ∷ [])) (frame_bytes f.number f.kind f.bytes)
  pub short : length f.bytes ≤ most_data
  pub gap : f.gap ≡ gap_at (last_out l) f.number
