-- The measure is what is left of the piece.
use Rattle.std.proofs.Common.{length}
use Rattle.morning.proofs.Night.read_piece.Given as goal

abbrev pub decreases-loop-rest : goal.decreases-loop-rest
decreases-loop-rest g l = length l.rest
