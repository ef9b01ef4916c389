use mathlib.Core.Path.{◌≡◌}
use Rattle.ground.specs.Bytes.{blank}
use Rattle.ground.proofs.blank.Given as goal

abbrev pub invariant-loop-j : goal.invariant-loop-j
invariant-loop-j l = blank l.s l.j l.e ≡ blank l.s l.i l.e
