use mathlib.Core.Path.{refl}
use Prim.Native.Nat.{◌/◌, ◌^◌}
use lib.Bits.{and_mask}
use Rattle.bits.specs.Members.{members}
use Rattle.bits.proofs.has.Goals as goal

pub returns : goal.returns
unfolding members
returns c = rw (and_mask (c.args.w / 2 ^ c.args.i) 1) refl
