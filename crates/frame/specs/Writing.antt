-- What the writer answers, and what it makes of the area that is lent to it.
use Rattle.std.specs.Prelude.{ℕ, Bool, cond, ◌||◌, List, ◌++◌, Result, Ok, Err, length, drop, nat_lt}
use Rattle.frame.specs.Wire.{most_data, frame_bytes, following}
use Rattle.frame.specs.declared.writer.WriteError.{WriteError}
use Rattle.frame.specs.declared.writer.WriteError.TheVariants.{TooManyData, TooLittleRoom}
use Rattle.frame.specs.declared.writer.Written.{Written}

-- Too many bytes of data, or an area too small for the frame.
unfoldable pub refused : ℕ → ℕ → ℕ → List ℕ → Bool
refused room n k d = nat_lt most_data (length d) || nat_lt room (length (frame_bytes n k d))

unfoldable pub written : ℕ → ℕ → ℕ → List ℕ → Result Written WriteError
written room n k d =
    cond (nat_lt most_data (length d))
    (Err TooManyData)
    (cond (nat_lt room (length (frame_bytes n k d))) (Err TooLittleRoom) (Ok (record { length = length (frame_bytes n k d); next = following n })))

-- How many bytes were written, none where it was refused, and the number of the next frame: a refusal keeps the number n.
unfoldable pub length_of : Result Written WriteError → ℕ
length_of (Ok w) = w.length
length_of (Err e) = 0

unfoldable pub next_of : ℕ → Result Written WriteError → ℕ
next_of n (Ok w) = w.next
next_of n (Err e) = n

unfoldable pub next_after : ℕ → ℕ → ℕ → List ℕ → ℕ
next_after room n k d = cond (refused room n k d) n (following n)

-- The frame's bytes at the front, the rest untouched; a refusal writes nothing.
unfoldable pub area_after : List ℕ → ℕ → ℕ → List ℕ → List ℕ
area_after out n k d = cond (refused (length out) n k d) out (frame_bytes n k d ++ drop (length (frame_bytes n k d)) out)
