-- How a reader's fields stand for its state. For this crate's proofs alone.
use Rattle.std.specs.Prelude.{ℕ, Bool, cond, not, List, take, ◌==◌, nat_lt}
use Rattle.frame.specs.Reading.{Part, Last, State, plain, escaped, spoilt, none, number, state}
use Rattle.frame.specs.Wire.{most_bytes}
use Rattle.frame.specs.declared.reader.Part.{Part as Told}
use Rattle.frame.specs.declared.reader.Part.TheVariants.{Plain, Escaped, Spoilt}
use Rattle.frame.specs.declared.reader.Reader.{Reader}

-- The first n bytes, and whether 0x7D came behind them.
unfoldable pub part_of : ℕ → Bool → List ℕ → Part
part_of n e l = cond (nat_lt most_bytes n) spoilt (cond e (escaped (take n l)) (plain (take n l)))

-- What a part says of the reader's bytes, and how many of them it speaks of.
abbrev pub seen : Told → List ℕ → Part
seen (Plain n) l = plain (take n l)
seen (Escaped n) l = escaped (take n l)
seen Spoilt l = spoilt

abbrev pub size_in : Told → ℕ
size_in (Plain n) = n
size_in (Escaped n) = n
size_in Spoilt = 0

unfoldable pub last_of : Bool → ℕ → Last
last_of any n = cond any (number n) none

-- A byte that says yes or no.
abbrev pub is_yes : ℕ → Bool
is_yes b = not (b == 0)

unfoldable pub state_of : Reader → State
state_of r = state (part_of r.length (is_yes r.escaped) r.bytes) (last_of (is_yes r.any) r.last)

-- The state of a reader whose part stands beside it, while a piece is read.
abbrev pub state_with : Reader → Told → State
state_with r p = state (seen p r.bytes) (last_of (is_yes r.any) r.last)
