use native.Mathlib.Omega.{arith}
use Rattle.charts.proofs.Words.{all_lowered}
use Rattle.charts.proofs.flags.lower_all.Goals as goal

pub returns : goal.returns
returns c =
    let l = c.loop-word in
    all_lowered c.args.up.now l.up c.args.p l.invariant.0 (λ i h. l.invariant.1 i (omega (arith, c.told-up, c.loop-word-test.false)))
