-- The measure is what is left of the piece.
use Rattle.std.proofs.Common.{length}
use Rattle.frame_cases.proofs.reading.Again.read.Given as goal

abbrev pub decreases-loop-rest : goal.decreases-loop-rest
decreases-loop-rest l = length l.rest
