-- How a ring holds its entries. For this crate's proofs alone: no other crate names this file.
use Rattle.std.specs.Prelude.{List, ℕ, ◌+◌, ◌-◌, ◌%◌, get_or, map}
use Rattle.ground.specs.Range.{tab}
use Rattle.mail.specs.Box.{room}
use Rattle.mail.specs.declared.Ring.{Ring}

-- Entry i from the front stands i places on from the head, round.
abbrev pub place_of : ℕ → ℕ → ℕ
place_of h i = (h + i) % room

-- From one place of a ring to the one before it, and so many places on.
abbrev pub one_back : ℕ → ℕ
one_back h = (h + (room - 1)) % room

abbrev pub on_by : ℕ → ℕ → ℕ
on_by h n = (h + n) % room

abbrev pub entry_at : List ℕ → ℕ → ℕ → ℕ
entry_at places h i = get_or places (place_of h i) 0

unfoldable pub ring : List ℕ → ℕ → ℕ → List ℕ
ring places h n = tab (entry_at places h) n

-- The entries of one ring, front first, and of several.
unfoldable pub entries : Ring → List ℕ
entries r = ring r.places r.head r.count

unfoldable pub boxes : List Ring → List (List ℕ)
boxes rings = map entries rings
