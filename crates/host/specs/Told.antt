-- What a host is told of READ, where it keeps things.
use Rattle.std.specs.Prelude.{List, ◌≡◌, ℕ, ◌+◌, ◌≤◌, drop, take}
use Rattle.std.proofs.Math.ListN as List
use Rattle.machine.specs.Machine.{part_at, part_of}
use Rattle.machine.specs.State.{State}

-- Place and length are those of the part that READ hands back; it lies within the payload area.
abbrev pub Found : State → List ℕ → List ℕ → ℕ → ℕ → Type 0
Found s r payloads place length =
    (part_at s r payloads ≡ (place, length)) × (take length (drop place payloads) ≡ part_of s r payloads) × (place + length ≤ List.length payloads)
