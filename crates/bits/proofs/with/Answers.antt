use Rattle.bits.proofs.Digits.{with_is}
use Rattle.bits.proofs.with.Goals as goal

pub returns : goal.returns
returns c = with_is _ _ c.requires
