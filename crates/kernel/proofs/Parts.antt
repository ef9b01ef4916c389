-- The part that READ hands back, found by its place and length.
use mathlib.Core.Bool.{Bool, true, false, cond, ◌&&◌}
use mathlib.Core.List.{List, []}
use mathlib.Core.Path.{◌≡◌, refl}
use Prim.Native.Nat.{ℕ}
use lib.Dec.{eqb}
use lib.ListN.{length, drop, take}
use Rattle.machine.specs.Events.{payload_of, read_at, read_part, read_tests}
use Rattle.machine.specs.Machine.{arg, generation, part_at, part_of, spoilt}
use Rattle.machine.specs.Numbers.{place_of, record_bytes}
use Rattle.machine.specs.Reply.{lowest}
use Rattle.machine.specs.State.{State, size_in}

-- the part of l that begins at a place and has a length
abbrev pub lies : List ℕ → ℕ × ℕ → List ℕ
lies l p = take p.1 (drop p.0 l)

-- a part that is there only where the test passes is found in the same way
lies_if : (l : List ℕ) (test : Bool) (p : ℕ × ℕ) (part : List ℕ) → lies l p ≡ part → lies l (cond test p (0, 0)) ≡ cond test part []
lies_if l true p part e = e
lies_if l false p part e = refl

read-lies : (spoilt : Bool) (b gen : ℕ) (s : State) (l : List ℕ) → lies l (read_at spoilt b gen s l) ≡ read_part spoilt b gen s l
unfolding read_at read_part payload_of
read-lies spoilt b gen s l = lies_if l (eqb (lowest (read_tests spoilt b gen s l)) 0) (place_of b, size_in s b) (payload_of s b l) refl

pub part_lies : (s : State) (r l : List ℕ) → lies l (part_at s r l) ≡ part_of s r l
unfolding part_at part_of
part_lies s r l =
    let test = eqb (length r) record_bytes && eqb (arg r 0) 17 in
    lies_if l test (read_at (spoilt 4 r) (arg r 1) (generation r) s l) (read_part (spoilt 4 r) (arg r 1) (generation r) s l) (read-lies (spoilt 4 r) (arg r 1) (generation r) s l)
