use mathlib.Core.Path.{◌∙◌, ap, sym}
use Rattle.kernel.proofs.Parts.{lies, part_lies}
use Rattle.host.proofs.trunhoac_read.Goals as goal

pub returns : goal.returns
returns c =
    let p = c.part_at-part.ensures in
    (p.part, ap (lies _) (sym p.part) ∙ part_lies _ _ _, p.length_in_bounds)
