use borrow.Author.Rules.{rules}
use borrow.Author.Tests.{lt-ltb, le-ltb}
use mathlib.Core.Bool.{true, false}
use mathlib.Core.Path.{◌≡◌, refl, sym, ◌∙◌}
use Prim.Native.Nat.{◌-◌, ◌+◌}
use Rattle.chart.specs.Chart.{flag_of, has_row, parent, path}
use Rattle.chart.specs.Held.{nth_out}
use Rattle.chart.specs.Numbers.{levels}
use Rattle.chart.proofs.Index.{parent_within}
use Rattle.chart.proofs.Walk.{nth_top, nth_done, nth_pass, nth_here, nth_last, nth_next, level_left, level_less}
use Rattle.chart.proofs.table.IndexedChart.find_holder.Goals as goal
use Rattle.chart.proofs.table.IndexedChart.find_holder.Goals.{then-row-self+else-left-eq0+else-field-eq0, else-row-self}

pub loop-k-init : goal.loop-k-init
loop-k-init c = (refl, c.requires.0)

pub returns-then-holder-eq0 : goal.returns-then-holder-eq0
returns-then-holder-eq0 c =
    let at = c.loop-k in
    (sym (nth_top c.args.self.now.chart.now c.args.g at.left (levels - at.k) at.holder c.if-holder-eq0.true) ∙ at.invariant.0, search rules)

pub returns-then-left-eq0 : goal.returns-then-left-eq0
returns-then-left-eq0 c =
    let d = c.args.self.now.chart.now in
    let g = c.args.g in
    let at = c.loop-k in
    let found : has_row d g at.holder ≡ true = rw (← c.row_of-row.ensures.0) (lt-ltb _ _ c.if-row-self.true) in
    (sym (nth_here d g at.left (levels - at.k) at.holder (level_left at.k (search rules)) c.if-holder-eq0.false found c.if-left-eq0.true) ∙ at.invariant.0, at.invariant.1)

pub returns-then-field-eq0 : goal.returns-then-field-eq0
returns-then-field-eq0 c =
    let d = c.args.self.now.chart.now in
    let g = c.args.g in
    let at = c.loop-k in
    let found : has_row d g at.holder ≡ true = rw (← c.row_of-row.ensures.0) (lt-ltb _ _ c.if-row-self.true) in
    let last : flag_of d g at.holder ≡ 0 = rw (← c.row_of-row.ensures.0) (sym c.field.ensures ∙ c.if-field-eq0.true) in
    (sym (nth_last d g at.left (levels - at.k) at.holder (level_left at.k (search rules)) c.if-holder-eq0.false found c.if-left-eq0.false last) ∙ at.invariant.0, search rules)

pub loop-k-preserved : goal.loop-k-preserved
loop-k-preserved c =
    let self = c.args.self.now in
    let d = self.chart.now in
    let g = c.args.g in
    let at = c.loop-k in
    let n = c.if-holder-eq0.false in
    let row = c.row_of-row.ensures.0 in
    let turn : nth_out d g at.left (path (levels - at.k) d at.holder) ≡ nth_out d g c.if-row-self.left (path (levels - (at.k + 1)) d (parent d at.holder)) =
    elim c.if-row-self.branch [
      | then-row-self+else-left-eq0+else-field-eq0 w ↦
          let found : has_row d g at.holder ≡ true = rw (← row) (lt-ltb _ _ w.if-row-self.true) in
          let more : flag_of d g at.holder ≡ 0 → ⊥ = λ q. w.if-field-eq0.false (w.field.ensures ∙ rw row q) in
          rw (w.left-is, ← level_less at.k) (nth_next d g at.left (levels - at.k) at.holder (level_left at.k (search rules)) n found w.if-left-eq0.false more)
      | else-row-self w ↦
          let none : has_row d g at.holder ≡ false = rw (← row) (le-ltb _ _ w.if-row-self.false) in
          rw (w.left-is, ← level_less at.k) (nth_pass d g at.left (levels - at.k) at.holder (level_left at.k (search rules)) n none)
    ] in
    rw c.parent_of-holder.ensures (sym turn ∙ at.invariant.0, parent_within self.edition d self.good at.holder (search rules) at.invariant.1)

pub returns : goal.returns
returns c =
    let at = c.loop-k in
    (sym (nth_done c.args.self.now.chart.now c.args.g at.left at.k at.holder (search rules)) ∙ at.invariant.0, search rules)
