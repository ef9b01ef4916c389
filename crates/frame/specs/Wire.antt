-- The bytes of a frame.
use Rattle.std.specs.Prelude.{ℕ, ◌+◌, ◌-◌, ◌%◌, cond, List, [], ◌∷◌, ◌++◌, ◌==◌}

-- The most bytes of data, and the most that a frame has unescaped.
abbrev pub most_data : ℕ
most_data = 93

abbrev pub most_bytes : ℕ
most_bytes = 96

-- 0x7E and 0x7D are sent as 0x7D and the byte XOR 0x20, any other byte as it is.
unfoldable pub sent : ℕ → List ℕ
sent b = cond (b == 0x7E) (0x7D ∷ 0x5E ∷ []) (cond (b == 0x7D) (0x7D ∷ 0x5D ∷ []) (b ∷ []))

unfoldable pub sent_all : List ℕ → List ℕ
sent_all [] = []
sent_all (b ∷ l) = sent b ++ sent_all l

unfoldable pub sum : List ℕ → ℕ
sum [] = 0
sum (b ∷ l) = b + sum l

-- The check byte: the inverted sum modulo 256.
unfoldable pub check_of : List ℕ → ℕ
check_of l = 255 - sum l % 256

-- A sequence number, a record number, data, and the check byte of all of them.
unfoldable pub unescaped : ℕ → ℕ → List ℕ → List ℕ
unescaped n k d = (n ∷ k ∷ d) ++ (check_of (n ∷ k ∷ d) ∷ [])

-- All of that as it is sent, and 0x7E at the end.
unfoldable pub frame_bytes : ℕ → ℕ → List ℕ → List ℕ
frame_bytes n k d = sent_all (unescaped n k d) ++ (0x7E ∷ [])

-- The number of the frame that follows.
unfoldable pub following : ℕ → ℕ
following n = (n + 1) % 256
