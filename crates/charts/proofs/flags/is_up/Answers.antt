use mathlib.Core.Path.{sym, ◌∙◌}
use native.Mathlib.Omega.{arith}
use Rattle.chart.proofs.Theorems.{words_at}
use Rattle.charts.proofs.flags.is_up.Goals as goal

pub returns : goal.returns
returns c =
    c.has.ensures ∙ sym (words_at c.args.up.now c.args.p c.args.f (λ z. omega (arith, c.requires.1)))
