use mathlib.Core.Path.{◌≡◌, sym, ◌∙◌}
use native.Mathlib.Omega.{arith}
use Rattle.machine.specs.Events.{full_receiver}
use Rattle.publish.proofs.Turns.{full_turn}
use Rattle.publish.proofs.any_full.Goals as goal

pub returns-then-is_full : goal.returns-then-is_full
returns-then-is_full c = λ s r. sym (full_turn s _ _ c.loop-p-test.true _ _ _ _ r (sym c.if-is_full.true ∙ c.is_full.ensures)) ∙ c.loop-p.invariant s r

pub loop-p-preserved : goal.loop-p-preserved
loop-p-preserved c = λ s r. sym (full_turn s _ _ c.loop-p-test.true _ _ _ _ r (sym c.if-is_full.false ∙ c.is_full.ensures)) ∙ c.loop-p.invariant s r

pub returns : goal.returns
unfolding full_receiver
returns c =
    let z : c.loop-p.p ≡ 0 = omega arith in
    λ s r. rw z at (c.loop-p.invariant s r)
