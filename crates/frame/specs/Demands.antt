-- What request 10 of document 02 asks of writer and reader together, of any data and any input. Each statement is a type; its proof has
-- the same name in small letters.
use Rattle.std.specs.Prelude.{◌≡◌, ℕ, ◌≤◌, Ok, List, [], ◌∷◌, ◌++◌, length, take, drop}
use Rattle.frame.specs.Reading.{State, Last, Frame, plain, state, fresh, frame, given, given_all, after_all, Feeds}
use Rattle.frame.specs.Terms.{Sent, stream, as_sent, resumed, Starts, last_out, Intact}
use Rattle.frame.specs.Wire.{most_data, frame_bytes}
use Rattle.frame.specs.Writing.{written, area_after}
use Rattle.frame.specs.declared.writer.Written.{Written}

-- "The reader takes input in pieces cut anywhere and gives the same records."
abbrev pub Cut : Type 0
Cut = (s : State) (a b : List ℕ) → (given_all s (a ++ b) ≡ given_all s a ++ given_all (after_all s a) b) × (after_all s (a ++ b) ≡ after_all (after_all s a) b)

-- The same of a piece that is fed until a frame is complete, and what is left of it after that.
abbrev pub Onward : Type 0
Onward =
    (s next : State) (piece : List ℕ) (read : ℕ) (frames : List Frame) → Feeds s piece read frames next →
    (given_all s piece ≡ frames ++ given_all next (drop read piece)) × (after_all s piece ≡ after_all next (drop read piece))

-- What the writer writes, the reader hands out, wherever a frame starts;
abbrev pub ReadBack : Type 0
ReadBack =
    (out : List ℕ) (n k : ℕ) (d : List ℕ) (m : Last) (w : Written) → written (length out) n k d ≡ Ok w →
    given_all (state (plain []) m) (take w.length (area_after out n k d)) ≡ frame m n k d ∷ []

-- and frame by frame, without a gap.
abbrev pub InOrder : Type 0
InOrder = (n : ℕ) (l : List Sent) → given_all fresh (stream n l) ≡ as_sent n l

-- "After damage of any kind, every intact frame that follows the next undamaged 0x7E is read as if nothing had happened, but for the gap
-- reported at the first of them": whatever came before.
abbrev pub Resumed : Type 0
Resumed =
    (before : List ℕ) (n : ℕ) (l : List Sent) → Starts before → given_all fresh (before ++ stream n l) ≡ given_all fresh before ++ resumed (last_out before) n l

-- "It hands out a frame only if 0x7D is followed by 0x5E or 0x5D throughout, its check fits and it has 3 to 96 bytes unescaped;", at most
-- one with a byte, "it reports a gap if the number is not one above the last handed out, modulo 256, and none at the first."
abbrev pub OnlyIntact : Type 0
OnlyIntact = (l : List ℕ) (b : ℕ) → (length (given (after_all fresh l) b) ≤ 1) × ((f : Frame) → given (after_all fresh l) b ≡ f ∷ [] → Intact l b f)

-- An area of 193 bytes has room for every frame.
abbrev pub Longest : Type 0
Longest = (n k : ℕ) (d : List ℕ) → length d ≤ most_data → length (frame_bytes n k d) ≤ 193

-- The book's example.
abbrev pub Book : Type 0
Book = frame_bytes 0x7E 0x7D (0x7D ∷ 0x08 ∷ 0x01 ∷ []) ≡ 0x7D ∷ 0x5E ∷ 0x7D ∷ 0x5D ∷ 0x7D ∷ 0x5D ∷ 0x08 ∷ 0x01 ∷ 0x7D ∷ 0x5E ∷ 0x7E ∷ []
