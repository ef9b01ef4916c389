use borrow.Author.Tests.{ne_eqb}
use mathlib.Core.Path.{sym}
use Rattle.chart.proofs.Words.{words_at}
use Rattle.chart.proofs.is_open.Goals as goal

pub returns-else-f-eq0 : goal.returns-else-f-eq0
returns-else-f-eq0 c =
    let from = c.args in
    let n = c.if-f-eq0.false in
    rw (ne_eqb _ 0 n, c.has.ensures, c.from.ensures) (sym (words_at from.flags.now from.p from.f n))
