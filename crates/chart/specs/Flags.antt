-- Document 02, request 8: the flags of an object, 1 to 8, and how the kernel holds them.
use Rattle.std.specs.Prelude.{Bool, false, ◌||◌, List, ◌∷◌, ℕ, eqb, get_or}
use Rattle.bits.specs.Members.{members}

-- Which of an object's flags are up. At its start all are down.
abbrev pub Flags : Type 0
Flags = ℕ → Bool

abbrev pub all_down : Flags
all_down f = false

-- A row is open if it has no flag, 0, or one that is up; a row whose flag is down is passed over.
abbrev pub is_open : Flags → ℕ → Bool
is_open is_up f = eqb f 0 || is_up f

-- The flags of object p in eight words: word f - 1 is the set of the objects whose flag f is up.
unfoldable pub in_words : List ℕ → ℕ → Flags
in_words words p f = members (get_or (0 ∷ words) f 0) p
