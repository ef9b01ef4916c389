use borrow.Author.Rules.{rules}
use mathlib.Core.Path.{◌≡◌, sym, ap, ◌∙◌}
use Prim.Native.Nat.{◌-◌, ◌+◌}
use Rattle.chart.specs.Chart.{byte, outward}
use Rattle.chart.specs.Held.{push_all, settling}
use Rattle.chart.specs.Step.{enter, listed, up_to}
use Rattle.chart.proofs.Walk.{settled_stop, settling_stop, settled-more, settling-more, settled_done, settling_done, settled_out_lem, push_none, push_turn}
use Rattle.chart.specs.Numbers.{levels}
use Rattle.chart.proofs.step.settle.Goals as goal

pub loop-k-preserved : goal.loop-k-preserved
loop-k-preserved c =
    let d = c.args.chart.now in
    let at = c.loop-k in
    let n : byte d at.next 4 ≡ 0 → ⊥ = λ z. c.if-initial-eq0.false (c.state_field-initial.ensures ∙ z) in
    let p = settled-more d at.k at.next (search rules) n in
    let q = settling-more d at.k at.next (search rules) n in (
      rw c.state_field-initial.ensures (sym p ∙ at.invariant.0),
      rw (c.enter.ensures, c.push.ensures, c.state_field.ensures, c.state_field-initial.ensures)
          (push_turn at.acts (listed (byte d at.next 5)) (enter d (up_to at.next (outward d (byte d at.next 4)))) (settling (levels - (at.k + 1)) d (byte d at.next 4)) ∙ ap (push_all at.acts) (sym q) ∙ at.invariant.1),
    )

pub returns-then-initial-eq0 : goal.returns-then-initial-eq0
returns-then-initial-eq0 c =
    let d = c.args.chart.now in
    let at = c.loop-k in
    let e = sym c.state_field-initial.ensures ∙ c.if-initial-eq0.true in
    settled_out_lem d _ _ _ _ (sym (settled_stop d (levels - at.k) at.next e) ∙ at.invariant.0)
    (sym (push_none _ _ (settling_stop d (levels - at.k) at.next e)) ∙ at.invariant.1)

pub returns-after-loop-k : goal.returns-after-loop-k
returns-after-loop-k c =
    let d = c.args.chart.now in
    let at = c.loop-k in
    settled_out_lem d _ _ _ _ (sym (settled_done d at.k at.next (search rules)) ∙ at.invariant.0)
    (sym (push_none _ _ (settling_done d at.k at.next (search rules))) ∙ at.invariant.1)
