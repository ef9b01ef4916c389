use borrow.Author.Rules.{rules}
use borrow.Author.Tests.{eq-eqb, ne_eqb}
use mathlib.Core.Bool.{true, false, ◌&&◌}
use mathlib.Core.Path.{◌≡◌, refl, sym, ap, ◌∙◌}
use Prim.Native.Nat.{◌-◌, ◌+◌}
use native.Mathlib.Omega.{arith}
use lib.Dec.{eqb}
use Rattle.machine.specs.Charts.{slot_used}
use Rattle.machine.specs.State.{slot_of, started}
use Rattle.state.specs.View.{state_of}
use Rattle.charts.proofs.Slots.{used-here, used_below}
use Rattle.charts.proofs.slot_used.Goals as goal
use Rattle.charts.proofs.slot_used.Goals.{else-is_started-via-then-is_started+else-from-q, else-is_started-via-else-is_started}

pub returns-then-from-q : goal.returns-then-from-q
unfolding state_of
returns-then-from-q c =
    let s = state_of c.args.k.now in
    let q = c.args.q in
    let i = c.loop-i.i - 1 in
    let turn : c.loop-i.i ≡ i + 1 = search rules in
    let place : i + 1 - 1 ≡ i = omega arith in
    let test : (started s (i + 1) && eqb (slot_of s (i + 1)) q) ≡ true =
    rw (← c.is_started.ensures, c.if-is_started.true, place, ← c.from.ensures, eq-eqb _ _ c.if-from-q.true) refl in
    sym (used-here s q i test) ∙ ap (slot_used s q) (sym turn) ∙ c.loop-i.invariant

pub loop-i-preserved : goal.loop-i-preserved
unfolding state_of
loop-i-preserved c =
    let s = state_of c.args.k.now in
    let q = c.args.q in
    let i = c.loop-i.i - 1 in
    let turn : c.loop-i.i ≡ i + 1 = search rules in
    let place : i + 1 - 1 ≡ i = omega arith in
    let test : (started s (i + 1) && eqb (slot_of s (i + 1)) q) ≡ false = elim c.else-is_started.branch [
      | else-is_started-via-then-is_started+else-from-q w ↦
          rw (← c.is_started.ensures, w.if-is_started.true, place, ← w.from.ensures, ne_eqb _ _ w.if-from-q.false) refl
      | else-is_started-via-else-is_started w ↦ rw (← c.is_started.ensures, w.if-is_started.false) refl
    ] in
    sym (used_below s q i test) ∙ ap (slot_used s q) (sym turn) ∙ c.loop-i.invariant

pub returns : goal.returns
unfolding slot_used
returns c =
    let z : c.loop-i.i ≡ 0 = search rules in
    rw z at c.loop-i.invariant
