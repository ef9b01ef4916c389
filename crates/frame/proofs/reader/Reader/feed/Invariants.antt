use Rattle.std.proofs.Common.{◌≤◌}
use Rattle.frame.specs.Inside.{size_in, state_with}
use Rattle.frame.specs.View.{state_of}
use Rattle.frame.specs.Wire.{most_bytes}
use Rattle.frame.proofs.Feeding.{SoFar}
use Rattle.frame.proofs.reader.Reader.feed.Given as goal

-- The first i bytes of the piece are read and complete nothing, and what has come has at most 96 bytes.
abbrev pub invariant-loop-i : goal.invariant-loop-i
invariant-loop-i l = SoFar (state_of l.initial.self) l.piece l.i (state_with l.self l.part) × (size_in l.part ≤ most_bytes)
