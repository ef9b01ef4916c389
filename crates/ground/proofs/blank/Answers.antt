use mathlib.Core.Path.{refl, sym, ◌∙◌}
use native.Mathlib.Omega.{arith}
use Prim.Native.Nat.{◌+◌}
use Rattle.ground.specs.Word.{word_bytes}
use Rattle.ground.specs.Bytes.{blank}
use Rattle.ground.specs.Every.{every_done}
use Rattle.ground.specs.Words.{begins_zero, begins_other, zero-at}
use Rattle.ground.proofs.blank.Goals as goal

pub loop-j-init : goal.loop-j-init
loop-j-init c = refl

pub returns-then-e-j-lt-WORD_BYTES : goal.returns-then-e-j-lt-WORD_BYTES
returns-then-e-j-lt-WORD_BYTES c = c.blank_bytes.ensures ∙ c.loop-j.invariant

pub returns-then-s-j : goal.returns-then-s-j
returns-then-s-j c = c.blank_bytes-then-s-j.ensures ∙ c.loop-j.invariant

pub returns-then-word-ne0 : goal.returns-then-word-ne0
returns-then-word-ne0 c =
    let l = c.loop-j in
    sym (begins_other _ l.j _ c.word.ensures _ (omega arith) c.if-word-ne0.true) ∙ l.invariant

pub loop-j-preserved : goal.loop-j-preserved
loop-j-preserved c =
    let l = c.loop-j in
    sym (begins_zero _ l.j _ c.word.ensures _ (omega arith) c.if-word-ne0.false) ∙ l.invariant

pub returns : goal.returns
unfolding blank
returns c = sym (every_done (zero-at c.args.s.now) _ _ c.loop-j-test.false) ∙ c.loop-j.invariant

-- the last word ends where the range does
pub returns-else-word-ne0 : goal.returns-else-word-ne0
unfolding blank
returns-else-word-ne0 c =
    let l = c.loop-j in
    sym (every_done (zero-at c.args.s.now) (l.j + word_bytes) _ (omega arith))
    ∙ sym (begins_zero _ l.j _ c.word.ensures _ (omega arith) c.if-word-ne0.false)
    ∙ l.invariant
