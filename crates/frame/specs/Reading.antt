-- What a reader makes of bytes: the frames that they complete, and its state after them.
use Rattle.std.specs.Prelude.{◌≡◌, ℕ, suc, ◌-◌, Bool, false, cond, not, ◌&&◌, List, [], ◌∷◌, ◌++◌, length, take, drop, ◌==◌, nat_le, nat_lt, slice_index}
use Rattle.frame.specs.Wire.{most_bytes, check_of, following}

-- What has come since the last 0x7E: bytes (unescaped), the same and then 0x7D, or what can be no frame any more.
pub data Part : Type 0 where
  plain : List ℕ → Part
  escaped : List ℕ → Part
  spoilt : Part

-- The number of the last frame that was handed out.
pub data Last : Type 0 where
  none : Last
  number : ℕ → Last

pub record State : Type 0 where
  pub part : Part
  pub last : Last

-- Its number, its record number, its data, and whether something is missing before it.
pub record Frame : Type 0 where
  pub number : ℕ
  pub kind : ℕ
  pub bytes : List ℕ
  pub gap : Bool

abbrev pub state : Part → Last → State
state p m = record { part = p; last = m }

-- Nothing has been read.
abbrev pub fresh : State
fresh = state (plain []) none

-- One byte more, as far as a frame may have them.
unfoldable pub pushed : List ℕ → ℕ → Part
pushed l b = cond (nat_lt (length l) most_bytes) (plain (l ++ (b ∷ []))) spoilt

-- A byte that is not 0x7E: 0x7D is followed by 0x5E or 0x5D.
unfoldable pub taken : Part → ℕ → Part
taken (plain l) b = cond (b == 0x7D) (escaped l) (pushed l b)
taken (escaped l) b = cond (b == 0x5E) (pushed l 0x7E) (cond (b == 0x5D) (pushed l 0x7D) spoilt)
taken spoilt b = spoilt

-- All bytes but the last: number, record number, data.
unfoldable pub front : List ℕ → List ℕ
front l = take (length l - 1) l

-- At least 3 bytes, and the last is the check byte of those before it.
unfoldable pub fits : List ℕ → Bool
fits l = nat_le 3 (length l) && slice_index l (length l - 1) == check_of (front l)

-- A gap: the number is not one above the last handed out, modulo 256; none at the first.
unfoldable pub gap_at : Last → ℕ → Bool
gap_at none n = false
gap_at (number m) n = not (n == following m)

unfoldable pub frame : Last → ℕ → ℕ → List ℕ → Frame
frame m n k d = record { number = n; kind = k; bytes = d; gap = gap_at m n }

-- The frame that 0x7E completes, if any.
unfoldable pub ended : Part → Last → List Frame
ended (plain l) m = cond (fits l) (frame m (slice_index l 0) (slice_index l 1) (drop 2 (front l)) ∷ []) []
ended (escaped l) m = []
ended spoilt m = []

-- The number of the last of some frames.
unfoldable pub last_in : Last → List Frame → Last
last_in m [] = m
last_in m (f ∷ l) = last_in (number f.number) l

-- A byte: the frame that it completes, and the state after it. With 0x7E the next frame starts.
unfoldable pub given : State → ℕ → List Frame
given s b = cond (b == 0x7E) (ended s.part s.last) []

unfoldable pub after : State → ℕ → State
after s b = state (cond (b == 0x7E) (plain []) (taken s.part b)) (last_in s.last (given s b))

-- Any number of bytes.
unfoldable pub given_all : State → List ℕ → List Frame
given_all s [] = []
given_all s (b ∷ l) = given s b ++ given_all (after s b) l

unfoldable pub after_all : State → List ℕ → State
after_all s [] = s
after_all s (b ∷ l) = after_all (after s b) l

-- Of a piece so many bytes are read: up to and with the first that completes a frame, else all.
unfoldable pub read_to : State → List ℕ → ℕ
read_to s [] = 0
read_to s (b ∷ l) = cond (length (given s b) == 0) (suc (read_to (after s b) l)) 1

-- What is fed, of a piece: the bytes that are read, the frame that they complete, if any, and the state after them.
pub record Feeds (s : State) (piece : List ℕ) (read : ℕ) (frames : List Frame) (next : State) : Type 0 where
  pub bytes : read ≡ read_to s piece
  pub handed : frames ≡ given_all s (take read piece)
  pub then : next ≡ after_all s (take read piece)
