use borrow.Author.Tests.{eq-eqb, ne_eqb, not-false, not-true}
use mathlib.Core.Bool.{Bool, false, not, ◌&&◌}
use mathlib.Core.List.{List, [], ◌∷◌, ◌++◌}
use mathlib.Core.Path.{◌≡◌, refl, sym, ap, ◌∙◌}
use Prim.Native.Nat.{ℕ, ◌+◌, ◌*◌, ◌≤◌}
use native.Mathlib.Omega.{arith}
use lib.Dec.{eqb}
use lib.ListN.{length}
use Rattle.chart.specs.Flat.{place}
use Rattle.chart.specs.Held.{reading}
use Rattle.chart.specs.Numbers.{each, first_signal, row_size, slot_size}
use Rattle.chart.specs.declared.Reading.{Reading}
use Rattle.drain.proofs.Laws.{Finds, finds, rows_lie, runs, table_long}
use Rattle.machine.specs.Charts.{slot_bad, slot_table, tables_bad}
use Rattle.machine.specs.Numbers.{edition_of, objects}
use Rattle.machine.specs.Reply.{FORM, AREA, BUSY, IDLE, BothTables, TABLE, both, lowest}
use Rattle.machine.specs.Run.{Fit}
use Rattle.machine.specs.State.{rest_of, slot_of}
use Rattle.machine.specs.Steps.{to_run, slot_to_run, coming, signal_of, next}
use Rattle.mail.specs.View.{boxes_at, front_taken, highest-mail}
use Rattle.numbers.specs.Codes.{code_of}
use Rattle.state.specs.View.{state_of}
use Rattle.state.proofs.Glue.{refused, refusal-numbered, doing}
use Rattle.steps.proofs.Runs.{before, before-rows, but_rows, fit_next, guarded_long, queued_some, step_is, tables_long}
use Rattle.steps.proofs.next.Goals as goal
use Rattle.steps.proofs.next.Goals.{After-next_refusal, then-p-ne0, else-p-ne0}

-- The object that is to run, in the state and with the tables at first, and the tests.
module _ (c : After-next_refusal) where
  abbrev tables : BothTables
  tables = both c.args.tables.now c.args.guarded.now

  object : c.highest-p.result ≡ to_run (state_of c.args.k.now)
  unfolding state_of
  object = c.highest-p.ensures.is

  is_object : c.highest-p.result ≤ objects
  is_object = omega (arith, c.highest-p.ensures.upper_bound, c.requires.mail.boxes-length)

  bad_is : c.if-p-ne0.bad_slot ≡ (not (eqb (to_run (state_of c.args.k.now)) 0) && slot_bad (slot_to_run (state_of c.args.k.now)) tables)
  unfolding state_of
  bad_is =
      elim c.if-p-ne0.branch [
        | then-p-ne0 w ↦ rw (w.bad_slot-is, w.slot_bad-bad_slot.ensures, w.from.ensures, ← object, ne_eqb c.highest-p.result 0 w.if-p-ne0.true) refl
        | else-p-ne0 w ↦ rw (w.bad_slot-is, ← object, eq-eqb c.highest-p.result 0 w.if-p-ne0.false) refl
      ]

  abbrev tests : List (ℕ × Bool)
  tests =
      (FORM, c.args.spoilt)
      ∷ (AREA, tables_bad tables)
      ∷ (AREA, c.if-p-ne0.bad_slot)
      ∷ (BUSY, c.is_open.result)
      ∷ (IDLE, eqb c.highest-p.result 0)
      ∷ (TABLE, false)
      ∷ []

  tests_are : lowest tests ≡ lowest (before c.args.spoilt (state_of c.args.k.now) tables ++ ((TABLE, false) ∷ []))
  tests_are = rw (bad_is, c.is_open.ensures, object) refl

-- None of the tests but that of the rows holds.
module _ (c : After-next_refusal) (passed : 0 ≡ lowest (tests c)) where
  none : lowest (before c.args.spoilt (state_of c.args.k.now) (tables c) ++ ((TABLE, false) ∷ [])) ≡ 0
  none = sym (passed ∙ tests_are c)

  fit : Fit (state_of c.args.k.now)
  fit = fit_next c.args.spoilt _ (tables c) none c.requires

  some_queued : c.highest-p.result ≡ 0 → ⊥
  some_queued z = queued_some c.args.spoilt (state_of c.args.k.now) (tables c) none (sym (object c) ∙ z)

  low : 1 ≤ c.highest-p.result
  low = let ne = some_queued in omega (arith, ne)

  -- the table of its slot, the event that comes, and what is found in the table for its signal
  module _ (slot : ℕ) (slot_is : slot ≡ slot_of (state_of c.args.k.now) c.highest-p.result) (table : List ℕ) (is : table ≡ slot_table (tables c) slot)
      (signal : ℕ) (comes : signal ≡ signal_of (state_of c.args.k.now) (coming (state_of c.args.k.now))) where
    table_is : table ≡ slot_table (tables c) (slot_of (state_of c.args.k.now) c.highest-p.result)
    table_is = is ∙ ap (slot_table (tables c)) slot_is

    long : slot_size (edition_of slot) ≤ length table
    long =
        table_long (tables c) _ _ (ap edition_of slot_is) _ table_is (rw (← object c) at fit.seated)
        (tables_long c.args.spoilt (state_of c.args.k.now) (tables c) none)
        (λ z. guarded_long c.args.spoilt (state_of c.args.k.now) (tables c) none (sym (ap (slot_of (state_of c.args.k.now)) (object c)) ∙ z))

    abbrev rest : ℕ
    rest = rest_of (state_of c.args.k.now) c.highest-p.result

    rows : (1 ≤ rest) × (first_signal ≤ signal) × (place (edition_of slot) rest signal 0 + row_size * each (edition_of slot) ≤ length table)
    rows = rows_lie (state_of c.args.k.now) (tables c) _ (object c) fit _ comes _ refl _ (ap edition_of slot_is) _ table_is long

    found : (r : Reading) → r ≡ reading (edition_of slot) ((state_of c.args.k.now).flags c.highest-p.result) table (place (edition_of slot) rest signal 0) (each (edition_of slot)) →
        Finds (state_of c.args.k.now) (tables c) table rest r
    found r read = finds (state_of c.args.k.now) (tables c) _ (object c) fit _ comes _ refl _ (ap edition_of slot_is) _ table_is long _ read some_queued

pub returns-in_err-next_refusal : goal.returns-in_err-next_refusal
unfolding next
returns-in_err-next_refusal c = λ p l.
    let lowest_is = c.in_err-next_refusal.ensures ∙ tests_are (goal.at.returns-in_err-next_refusal c).After-next_refusal in
    refused _ _ _ _ _ _ c.from_residual.ensures.1 (lowest_is ∙ before-rows _ _ _ (λ z. refusal-numbered _ (lowest_is ∙ z)))

pub overflow_sub-q : goal.overflow_sub-q
overflow_sub-q c = low (goal.at.overflow_sub-q c).After-next_refusal c.in_ok-next_refusal.ensures

pub coming-l-requires : goal.coming-l-requires
coming-l-requires c =
    let at = (goal.at.coming-l-requires c).After-next_refusal in
    let passed = c.in_ok-next_refusal.ensures in
    (low at passed, is_object at, object at, fit at passed)

pub find_row-found-requires : goal.find_row-found-requires
unfolding state_of
find_row-found-requires c =
    let at = (goal.at.find_row-found-requires c).After-next_refusal in
    let r = rows at c.in_ok-next_refusal.ensures _ c.from-slot.ensures _ c.table_of-table.ensures _ c.coming-l.ensures.signal in
    let l = is_object at in
    (r.0, r.1, omega arith, rw c.edition_of.ensures r.2)

pub returns-in_err-refuse_if : goal.returns-in_err-refuse_if
unfolding next state_of
returns-in_err-refuse_if c = λ p l.
    let at = (goal.at.returns-in_err-refuse_if c).After-next_refusal in
    let passed = c.in_ok-next_refusal.ensures in
    let f = found at passed _ c.from-slot.ensures _ c.table_of-table.ensures _ c.coming-l.ensures.signal _ (c.find_row-found.ensures ∙ rw c.edition_of.ensures refl) in
    let stops = f.stops (sym c.is_sound.ensures ∙ not-true _ c.in_err-refuse_if.ensures.0) in
    refused _ _ _ _ _ _ c.from_residual-in_err-refuse_if.ensures.1 (ap code_of c.in_err-refuse_if.ensures.1 ∙ sym (but_rows c.args.spoilt (state_of c.args.k.now) (tables at) (none at passed) ∙ stops))

pub take_front-k-requires : goal.take_front-k-requires
unfolding state_of
take_front-k-requires c =
    let at = (goal.at.take_front-k-requires c).After-next_refusal in
    highest-mail c.args.k.now.mail _ (object at) (low at c.in_ok-next_refusal.ensures)

pub next_rest-requires : goal.next_rest-requires
unfolding state_of
next_rest-requires c =
    let at = (goal.at.next_rest-requires c).After-next_refusal in
    (found at c.in_ok-next_refusal.ensures _ c.from-slot.ensures _ c.table_of-table.ensures _ c.coming-l.ensures.signal _ (c.find_row-found.ensures ∙ rw c.edition_of.ensures refl)).lies

pub answer-requires : goal.answer-requires
unfolding state_of
answer-requires c =
    let at = (goal.at.answer-requires c).After-next_refusal in
    let passed = c.in_ok-next_refusal.ensures in
    let f = found at passed _ c.from-slot.ensures _ c.table_of-table.ensures _ c.coming-l.ensures.signal _ (c.find_row-found.ensures ∙ rw c.edition_of.ensures refl) in
    (runs (state_of c.args.k.now) _ (is_object at) _ c.coming-l.ensures (fit at passed), f.lies)

pub returns : goal.returns
unfolding next state_of
returns c = λ p l.
    let k = c.args.k.now in
    let at = (goal.at.returns c).After-next_refusal in
    let passed = c.in_ok-next_refusal.ensures in
    let f = found at passed _ c.from-slot.ensures _ c.table_of-table.ensures _ c.coming-l.ensures.signal _ (c.find_row-found.ensures ∙ rw c.edition_of.ensures refl) in
    let sound = sym c.is_sound.ensures ∙ not-false _ c.in_ok-refuse_if.ensures in
    doing _ _ _ _ _ _ (sym (but_rows c.args.spoilt (state_of k) (tables at) (none at passed) ∙ f.steps sound))
    (step_is k _ (tables at) _ (object at) _ c.coming-l.ensures _ (f.gives sound)
    (rw (front_taken k.mail _ _ c.take_front-k.ensures.left, c.take_front-k.ensures.value, c.next_rest.ensures, boxes_at) refl) _ (c.answer.ensures _) _)
