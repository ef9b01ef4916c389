use Rattle.std.proofs.Common.{arith}
use Rattle.frame.specs.Wire.{sum, check_of}
use Rattle.frame.proofs.writer.Unescaped.new.Goals as goal

pub invariant_of-result : goal.invariant_of-result
unfolding check_of sum
invariant_of-result c = record { short = c.requires; checked = omega (arith, c.sum_of.ensures) }
