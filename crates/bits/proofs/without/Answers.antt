use Rattle.bits.proofs.Digits.{without_is}
use Rattle.bits.proofs.without.Goals as goal

pub returns : goal.returns
returns c = without_is _ _ c.requires
