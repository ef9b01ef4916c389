use mathlib.Core.Path.{◌≡◌, ◌∙◌, ap, sym}
use Prim.Native.Nat.{◌+◌, ◌-◌}
use native.Mathlib.Omega.{arith}
use Rattle.kernel.proofs.Parts.{lies, part_lies}
use Rattle.kernel.proofs.read_part.Goals as goal

pub returns : goal.returns
returns c =
    let p = c.part_at-place in
    let n : p.result.place + p.result.length - p.result.place ≡ p.result.length = omega arith in
    rw n (ap (lies _) (sym p.ensures.part) ∙ part_lies _ _ _)
