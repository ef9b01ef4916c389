use mathlib.Core.Path.{◌≡◌}
use Rattle.ground.specs.Bytes.{blank}
use Rattle.ground.specs.Range.{every}
use Rattle.ground.specs.Words.{zero-at}
use Rattle.ground.proofs.blank_bytes.Given as goal

abbrev pub invariant-loop-j : goal.invariant-loop-j
invariant-loop-j l = every (zero-at l.s) l.j l.e ≡ blank l.s l.i l.e
