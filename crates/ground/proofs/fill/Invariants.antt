use mathlib.Core.Path.{◌≡◌}
use lib.ListN.{length, take}
use Rattle.ground.specs.Bytes.{padded}
use Rattle.ground.proofs.fill.Given as goal

-- The first i bytes are written.
abbrev pub invariant-loop-i : goal.invariant-loop-i
invariant-loop-i l = (length l.dst ≡ length l.initial.dst) × (take l.i l.dst ≡ take l.i (padded (length l.initial.dst) l.src))
