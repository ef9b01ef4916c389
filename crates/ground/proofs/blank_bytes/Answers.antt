use borrow.Author.Tests.{eq-eqb, ne_eqb}
use mathlib.Core.Path.{refl, sym, ◌∙◌}
use Rattle.ground.specs.Bytes.{blank}
use Rattle.ground.specs.Every.{every_done, every_pass, every_fail}
use Rattle.ground.specs.Words.{zero-at}
use Rattle.ground.proofs.blank_bytes.Goals as goal

pub loop-j-init : goal.loop-j-init
unfolding blank
loop-j-init c = refl

pub returns-then-byte_at-ne0 : goal.returns-then-byte_at-ne0
returns-then-byte_at-ne0 c =
    let l = c.loop-j in
    let s = c.args.s.now in
    sym (every_fail (zero-at s) l.j _ c.loop-j-test.true (rw (← c.byte_at.ensures) (ne_eqb _ _ c.if-byte_at-ne0.true))) ∙ l.invariant

pub loop-j-preserved : goal.loop-j-preserved
loop-j-preserved c =
    let l = c.loop-j in
    let s = c.args.s.now in
    sym (every_pass (zero-at s) l.j _ c.loop-j-test.true (rw (← c.byte_at.ensures) (eq-eqb _ _ c.if-byte_at-ne0.false))) ∙ l.invariant

pub returns : goal.returns
returns c = sym (every_done (zero-at c.args.s.now) _ _ c.loop-j-test.false) ∙ c.loop-j.invariant
