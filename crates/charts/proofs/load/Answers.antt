use borrow.Author.Tests.{eq-eqb, eqb-true, not-false}
use mathlib.Core.Bool.{false, not}
use mathlib.Core.Path.{◌≡◌, refl, sym, ap, ◌∙◌}
use Prim.Native.Nat.{◌<◌, ◌-◌}
use native.Mathlib.Omega.{arith}
use lib.Dec.{eqb}
use lib.ListN.{length}
use Rattle.chart.proofs.Accepted.{accepted, at_most}
use Rattle.chart.specs.Chart.{states}
use Rattle.machine.proofs.Tests.{fault_none, none_holds, within_high}
use Rattle.machine.specs.Charts.{load, load_tests}
use Rattle.machine.specs.Numbers.{slots, edition_of, guarded_slot, table_bytes, guarded_bytes}
use Rattle.state.proofs.Glue.{writing}
use Rattle.state.specs.View.{areas, told, state_of}
use Rattle.charts.proofs.Slots.{load_faulty, load_refused}
use Rattle.charts.proofs.load.Goals as goal
use Rattle.charts.proofs.load.Goals.{In_ok-load_refusal}

pub returns-in_err-load_refusal : goal.returns-in_err-load_refusal
unfolding load load_tests
returns-in_err-load_refusal c = λ p l.
    load_refused c.args.k.now (areas p _ _ l) _ _ _ _ c.from_residual.ensures.1
    (c.in_err-load_refusal.ensures ∙ rw (c.slot_bad.ensures, c.is_open.ensures, c.slot_used.ensures) refl)

allowed : (c : In_ok-load_refusal) →
    (c.args.q < slots) × (length c.args.tables.now ≡ table_bytes) × (c.args.q ≡ guarded_slot → length c.args.guarded.now ≡ guarded_bytes)
allowed c =
    let n = none_holds _ refl (sym c.in_ok-load_refusal.ensures) in (
      let h = within_high 0 (slots - 1) _ n.1.1.1.0 in omega arith,
      eqb-true _ _ (not-false _ n.1.0),
      λ f. let b : not (eqb (length c.args.guarded.now) guarded_bytes) ≡ false = rw (eq-eqb c.args.q guarded_slot f) at (sym c.slot_bad.ensures ∙ n.1.1.0) in eqb-true _ _ (not-false _ b),
    )

pub fill_slot-requires : goal.fill_slot-requires
fill_slot-requires c = allowed (goal.at.fill_slot-requires c).In_ok-load_refusal

pub returns-in_err-fill_slot : goal.returns-in_err-fill_slot
unfolding load load_tests
returns-in_err-fill_slot c = λ p l.
    let f = c.in_err-fill_slot.ensures in
    load_faulty c.args.k.now (areas p _ _ l) _ _ _ _ _ c.from_residual-in_err-fill_slot.ensures.1
    (c.in_ok-load_refusal.ensures ∙ rw (c.slot_bad.ensures, c.is_open.ensures, c.slot_used.ensures) refl) f.class
    (areas p _ _ l) (ap (λ t. record { payloads = p; tables = t; log = l }) f.err)

pub bounds-k-q : goal.bounds-k-q
bounds-k-q c = (allowed (goal.at.bounds-k-q c).In_ok-load_refusal).0

pub overflow_cast-state_count : goal.overflow_cast-state_count
overflow_cast-state_count c =
    let a = c.args in
    let e = edition_of a.q in
    omega (arith, c.state_count.ensures, at_most e (states a.chart.now) a.chart.now (accepted e a.chart.now (sym c.in_ok-fill_slot.ensures.class)).forms)

pub returns : goal.returns
unfolding load load_tests told state_of
returns c = λ p l.
    let f = c.in_ok-fill_slot.ensures in
    writing c.args.k.now (areas p _ _ l) _ _ _ _ (areas p _ _ l)
    (c.in_ok-load_refusal.ensures ∙ rw (c.slot_bad.ensures, c.is_open.ensures, c.slot_used.ensures) refl)
    (rw (fault_none _ _ _ _ (sym f.class), c.done.ensures, c.state_count.ensures, f.ok) refl)
