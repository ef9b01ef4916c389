use mathlib.Core.Path.{sym, ◌∙◌}
use native.Mathlib.Nat.{sub-zero}
use native.Mathlib.Omega.{arith}
use Rattle.ground.specs.Words.{ends_other, ends_zero, word_from}
use Rattle.chart.proofs.blank_from.Goals as goal

pub returns-then-k : goal.returns-then-k
returns-then-k c = sym (ends_other _ _ _ c.word-third.ensures _ (omega arith) c.if-third-ne0.true)

pub returns-then-third-ne0 : goal.returns-then-third-ne0
returns-then-third-ne0 c = c.ends.ensures ∙ sym (word_from _ _ _ c.word-third.ensures _ c.if-k.false)

pub returns-then-k-lt-WORD_BYTES : goal.returns-then-k-lt-WORD_BYTES
returns-then-k-lt-WORD_BYTES c =
    sym
    (ends_zero _ _ _ c.word-third.ensures _ c.if-third-ne0.false
    ∙ ends_other _ _ _ c.word-second.ensures _ (omega arith) c.if-second-ne0.true)

pub returns-then-second-ne0 : goal.returns-then-second-ne0
returns-then-second-ne0 c =
    c.ends-then-second-ne0.ensures
    ∙ sym
    (ends_zero _ _ _ c.word-third.ensures _ c.if-third-ne0.false
    ∙ word_from _ _ _ c.word-second.ensures _ c.if-k-lt-WORD_BYTES.false)

pub returns : goal.returns
returns c =
    let a = c.args in
    c.ends-2.ensures
    ∙ sym
    (ends_zero _ _ _ c.word-third.ensures _ c.if-third-ne0.false
    ∙ ends_zero _ _ _ c.word-second.ensures _ c.if-second-ne0.false
    ∙ rw sub-zero at (word_from a.row.now 0 c.word.result c.word.ensures a.k (omega arith)))
