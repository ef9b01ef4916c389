use native.Mathlib.Omega.{arith}
use Rattle.charts.proofs.Words.{flag-set}
use Rattle.charts.proofs.flags.set.Goals as goal

pub returns : goal.returns
returns c =
    flag-set c.args.up.now c.args.p c.args.f c.changed.result c.args.value c.requires.1 (omega (arith, c.requires.2, c.told-up)) c.changed.ensures
