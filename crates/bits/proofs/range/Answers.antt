use mathlib.Core.Path.{refl}
use Rattle.bits.proofs.range.Goals as goal

pub returns : goal.returns
returns c = refl
