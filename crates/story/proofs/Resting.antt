-- Demand 3: what changes where an object rests, that it rests in a leaf, that no row is unsound, and that no accepted chart is turned away.
use mathlib.Core.Bool.{Bool, true, false, cond, not, ◌&&◌, ◌||◌}
use mathlib.Core.List.{List, ◌∷◌}
use mathlib.Core.Logic.{inl, inr, ⊎_elim}
use mathlib.Core.Path.{◌≡◌, refl, sym, ap, ◌∙◌}
use Prim.Native.Nat.{ℕ, ◌-◌, ◌≤◌, ◌<◌}
use native.Mathlib.Omega.{arith}
use borrow.Author.Tests.{eqb-false, ltb-true, eqb-true, eq-eqb, le-ltb, ne_eqb, not-false, not-true}
use lib.Dec.{eqb, ltb}
use lib.ListN.{length, get_or, replicate}
use lib.Seq.{get_or-set_other, get_or-set_same}
use Rattle.ground.specs.Bools.{eq_or, no_yes}
use Rattle.ground.specs.Bytes.{blank}
use Rattle.ground.specs.Range.{every_from}
use Rattle.chart.specs.Chart.{class_of}
use Rattle.chart.specs.Flat.{all_read, start_sound}
use Rattle.machine.proofs.KeepsSteps.{ready}
use Rattle.machine.proofs.Parts.{started_deep}
use Rattle.machine.proofs.Tests.{or_false, within_high}
use Rattle.machine.specs.Charts.{slot_used, load_tests, load, start_row, started_at}
use Rattle.machine.specs.Machine.{spoilt, choose, command, answer_to}
use Rattle.machine.specs.Numbers.{objects, slots, guarded_slot, edition_of, table_bytes, no_object, no_depth, no_slot, outside}
use Rattle.machine.specs.Reply.{Areas, BothTables, TABLE, lowest, unless, unless_fault, reply_of, bytes}
use Rattle.machine.specs.State.{State, depth_of, rest_of, slot_of, started, is_loaded, is_open}
use Rattle.machine.specs.Steps.{to_run, slot_to_run, next_rows, stepped}
use Rattle.mail.specs.Box.{queued}
use Rattle.story.specs.Calls.{Call, Story, then, kernel, left_tables, OnlyKernelTables}
use Rattle.story.specs.Demands
use Rattle.story.specs.Table
use Rattle.story.specs.Table.{LOAD, START, NEXT, DRAIN, line, table_of, applies}
use Rattle.story.specs.Terms.{argument, command_of, number, object, value₁, Did, chart_in, next_call}
use Rattle.story.proofs.Charted.{Charted, start-sound, same_start, same_rows, next-sound}
use Rattle.story.proofs.Lent.{WholeFor, whole_for, not_bad, tables-before, tables-lent, slot_lent, tables_same}
use Rattle.story.proofs.Made.{load_done}
use Rattle.story.proofs.Nested.{next_only}
use Rattle.story.proofs.Numbers.{idle_is}
use Rattle.story.proofs.Pairs.{drained, drain_whole}
use Rattle.story.proofs.Refusals.{kept, refused}
use Rattle.story.proofs.Starting.{start_did}
use Rattle.story.proofs.Tables.{charted, frame, does_so, charts_same, load_unused, unchanged_state}
use Rattle.story.proofs.Taking.{next_ready, next-steps}

-- ## Where an object rests
module _ (h : Story) (c : Call) (p : ℕ) (low : 1 ≤ p) where
  abbrev Stays : Type 0
  Stays = rest_of (kernel (then h c)) p ≡ rest_of (kernel h) p

  start_stays : Did START h c → (argument c 1 ≡ p → ⊥) → Stays
  unfolding kernel started_at
  start_stays did ne =
      let m = start_did h c did in
      ap (λ a. rest_of a.state p) m.is ∙ get_or-set_other (kernel h).objects.rests (argument c 1 - 1) (p - 1) _ 0 (λ e. ne (omega (arith, m.low)))

  next_stays : Did NEXT h c → (object h c ≡ p → ⊥) → Stays
  unfolding kernel stepped
  next_stays did ne =
      let w = next-steps h c did in
      ap (λ s. rest_of s p) w.state
      ∙ get_or-set_other (kernel h).objects.rests (to_run (kernel h) - 1) (p - 1) _ 0 (λ e. ne (omega (arith, w.object, (next_ready h c did).low)))

  other_stays : (command_of c ≡ START → ⊥) → (command_of c ≡ NEXT → ⊥) → (command_of c ≡ DRAIN → ⊥) → Stays
  unfolding kernel
  other_stays a b d = ap (λ (l : List ℕ). get_or l (p - 1) 0) ((frame h c).rests a b d)

pub rests : Demands.Rests
rests h c p low moves =
    ⊎_elim (λ d.
    ⊎_elim (λ e. ⊎_elim (λ q. inl ((e, d), q)) (λ q. absurd (moves (start_stays h c p low (e, d) q))) (eq_or (argument c 1) p)) (λ n2.
    ⊎_elim (λ e. ⊎_elim (λ q. inr (inl ((e, d), q))) (λ q. absurd (moves (next_stays h c p low (e, d) q))) (eq_or (object h c) p)) (λ n12.
    ⊎_elim (λ e. inr (inr (e, d))) (λ n18. absurd (moves (other_stays h c p low n2 n12 n18))) (eq_or (command_of c) DRAIN)) (eq_or (command_of c) NEXT)) (eq_or (command_of c) START))
    (λ n. absurd (moves (ap (λ s. rest_of s p) (unchanged_state h c n))))
    (eq_or (number h c) 0)

pub rests_in_leaf : Demands.RestsInLeaf
rests_in_leaf h first only p low on = (charted h first only).rests (p - 1) (started_deep (kernel h) p on)

-- ## The chart of an object
module _ (h : Story) (c : Call) (p : ℕ) (low : 1 ≤ p) (on : started (kernel h) p ≡ true) where
  record Sits : Type 0 where
    depth : depth_of (kernel (then h c)) p ≡ depth_of (kernel h) p
    seat : slot_of (kernel (then h c)) p ≡ slot_of (kernel h) p

  -- it is not the one that a START starts
  not_new : 1 ≤ argument c 1 → started (kernel h) (argument c 1) ≡ false → p - 1 ≡ argument c 1 - 1 → ⊥
  not_new l new e = let q : argument c 1 ≡ p = omega arith in no_yes (sym (rw q at new) ∙ on)

  start_sits : Did START h c → Sits
  unfolding kernel started_at
  start_sits did =
      let m = start_did h c did in
      record {
        depth = ap (λ a. depth_of a.state p) m.is ∙ get_or-set_other (kernel h).objects.depths (argument c 1 - 1) (p - 1) _ 0 (not_new m.low m.new);
        seat = ap (λ a. slot_of a.state p) m.is ∙ get_or-set_other (kernel h).objects.seats (argument c 1 - 1) (p - 1) _ 0 (not_new m.low m.new);
      }

  other_sits : (command_of c ≡ START → ⊥) → Sits
  unfolding kernel
  other_sits ne = record {
    depth = ap (λ (l : List ℕ). get_or l (p - 1) 0) ((frame h c).depths ne);
    seat = ap (λ (l : List ℕ). get_or l (p - 1) 0) ((frame h c).seats ne);
  }

  refused_sits : (number h c ≡ 0 → ⊥) → Sits
  refused_sits ne = let e = unchanged_state h c ne in record { depth = ap (λ s. depth_of s p) e; seat = ap (λ s. slot_of s p) e }

  sits : Sits
  sits = ⊎_elim (λ d. ⊎_elim (λ e. start_sits (e, d)) other_sits (eq_or (command_of c) START)) refused_sits (eq_or (number h c) 0)

  -- a LOAD that is done is of another slot
  loaded_other : Did LOAD h c → chart_in (then h c) (slot_of (kernel h) p) ≡ chart_in h (slot_of (kernel h) p)
  unfolding chart_in
  loaded_other did =
      rw (ne_eqb (argument c 1) (slot_of (kernel h) p) (λ e. load_unused h c did (p - 1) (started_deep (kernel h) p on) (sym e)), does_so h c LOAD did) refl

  no_load : (Did LOAD h c → ⊥) → chart_in (then h c) (slot_of (kernel h) p) ≡ chart_in h (slot_of (kernel h) p)
  no_load ne = charts_same h c ne (slot_of (kernel h) p)

  keeps_chart : chart_in (then h c) (slot_of (kernel h) p) ≡ chart_in h (slot_of (kernel h) p)
  keeps_chart =
      ⊎_elim (λ d. ⊎_elim (λ e. loaded_other (e, d)) (λ ne. no_load (λ did. ne did.0)) (eq_or (command_of c) LOAD)) (λ ne. no_load (λ did. ne did.1)) (eq_or (number h c) 0)

pub seated : Demands.Seated
seated h c p low on =
    let w = sits h c p low on in
    (rw w.depth on, w.seat, rw w.seat (keeps_chart h c p low on))

-- ## No row is unsound
-- what the lines of the table say of START and of NEXT where they do not apply, and of TABLE where it does
neither : (a b c : Bool) → (a || ((b || false) && c || false)) ≡ false → (a ≡ false) × ((b && c) ≡ false)
neither true b c e = no_yes (sym e)
neither false true c e = (refl, (or_false c false e).0)
neither false false c e = (refl, refl)

module _ (s : State) (r d : List ℕ) (z : Areas) where
  start_area : line (table_of 2 s r d z) false 2 ≡ false → WholeFor (get_or r 2 0) z.tables
  unfolding line table_of Table.one_of Table.other_length Table.uses_guarded
  start_area e = let w = neither _ (eqb (get_or r 2 0) guarded_slot) _ e in whole_for (get_or r 2 0) z.tables w.0 w.1

  start-slot : line (table_of 2 s r d z) false 3 ≡ false → no_slot (get_or r 2 0) ≡ false
  unfolding line table_of Table.one_of Table.arguments Table.some_outside Table.is_outside
  start-slot e = second (no_object (get_or r 1 0)) (no_slot (get_or r 2 0)) (no_depth (get_or r 3 0) || false) e
    where
      second : (a b c : Bool) → ((a || (b || c)) || false) ≡ false → b ≡ false
      second a b c e = (or_false b c (or_false a (b || c) (or_false (a || (b || c)) false e).0).1).0

  start_loaded : line (table_of 2 s r d z) false 8 ≡ false → is_loaded s (get_or r 2 0) ≡ true
  unfolding line table_of Table.one_of
  start_loaded e = not-false _ e

  start-unsound : line (table_of 2 s r d z) false 15 ≡ true → start_sound (edition_of (get_or r 2 0)) (start_row z.tables (get_or r 2 0)) ≡ false
  unfolding line table_of Table.one_of Table.unsound
  start-unsound e = unsound_of _ e
    where
      unsound_of : (b : Bool) → (not b || false) ≡ true → b ≡ false
      unsound_of true e = sym e
      unsound_of false e = refl

  next_area : line (table_of 12 s r d z) false 2 ≡ false → eqb (to_run s) 0 ≡ false → WholeFor (slot_to_run s) z.tables
  unfolding line table_of Table.one_of Table.other_length Table.uses_guarded
  next_area e some = let w = neither _ (eqb (slot_to_run s) guarded_slot) _ (rw some at e) in whole_for (slot_to_run s) z.tables w.0 w.1

  next_busy : line (table_of 12 s r d z) false 6 ≡ false → eqb (queued s.boxes) 0 ≡ false
  unfolding line table_of Table.one_of
  next_busy e = e

  next-unsound : line (table_of 12 s r d z) false 15 ≡ true → all_read (edition_of (slot_to_run s)) (s.flags (to_run s)) (next_rows s z.tables) ≡ false
  unfolding line table_of Table.one_of Table.unsound
  next-unsound e = not-true _ e

  -- TABLE is for START and NEXT
  table_command : (n : ℕ) → (n ≡ 2 → ⊥) → (n ≡ 12 → ⊥) → line (table_of n s r d z) false 15 ≡ false
  unfolding line table_of Table.one_of Table.unsound
  table_command n a b = rw (ne_eqb 2 n (λ e. a (sym e)), ne_eqb 12 n (λ e. b (sym e))) refl

module _ (h : Story) (c : Call) (first : BothTables) (only : OnlyKernelTables first (then h c)) where
  abbrev Applies : ℕ → Bool
  Applies k = line (table_of (command_of c) (kernel h) c.command c.chart c.areas) false k

  was : Charted (kernel h).loaded (kernel h).objects (left_tables first h) (chart_in h)
  was = charted h first (tables-before first h c only)

  no_unsound : (Applies 15 ≡ true) → ((m : ℕ) → m < 15 → Applies m ≡ false) → ⊥
  no_unsound this lower =
      let s = kernel h in
      ⊎_elim (λ e.
      let q = argument c 2 in
      let whole = start_area s c.command c.chart c.areas (rw e at (lower 2 (omega arith))) in
      let l : q < slots = omega (arith, within_high 0 (slots - 1) q (start-slot s c.command c.chart c.areas (rw e at (lower 3 (omega arith))))) in
      let on : get_or s.loaded q 0 ≡ 1 = eqb-true _ 1 (start_loaded s c.command c.chart c.areas (rw e at (lower 8 (omega arith)))) in
      let row = same_start c.areas.tables (left_tables first h) q (slot_lent first h c only q whole) in
      no_yes (sym (start-unsound s c.command c.chart c.areas (rw e at this)) ∙ ap (start_sound (edition_of q)) row
      ∙ start-sound (left_tables first h) q (chart_in h q) (was.table q l on) (was.good q l on)))
      (λ n2.
      ⊎_elim (λ e.
      let some = idle_is s.boxes ∙ next_busy s c.command c.chart c.areas (rw e at (lower 6 (omega arith))) in
      let whole = next_area s c.command c.chart c.areas (rw e at (lower 2 (omega arith))) some in
      let rows = same_rows s c.areas.tables (left_tables first h) (slot_lent first h c only (slot_to_run s) whole) in
      no_yes (sym (next-unsound s c.command c.chart c.areas (rw e at this)) ∙ ap (all_read (edition_of (slot_to_run s)) (s.flags (to_run s))) rows
      ∙ next-sound s (left_tables first h) (chart_in h) (kept h) (ready s some) was))
      (λ n12. no_yes (sym (table_command s c.command c.chart c.areas (command_of c) n2 n12) ∙ this))
      (eq_or (command_of c) NEXT))
      (eq_or (command_of c) START)

  no_table : number h c ≡ TABLE → ⊥
  unfolding applies
  no_table e = let w = (refused h c TABLE (omega arith)).0 e in no_unsound w.0 w.1

  drain_only : Did DRAIN h c → OnlyKernelTables first (then (then h c) (next_call c))
  drain_only did =
      next_only h c first only (then h c) only
      (tables_same first h c only ((frame h c).tables (λ e. omega (arith, did.0))) ∙ sym (tables-lent first h c only (drain_whole h c did)))

stops_so : (t u : Bool) → ◌≡◌ {A = ℕ} (cond t 1 (cond u 2 0)) 2 → (t ≡ false) × (u ≡ true)
stops_so true u e = absurd (omega arith)
stops_so false true e = (refl, refl)
stops_so false false e = absurd (omega arith)

pub table_never : Demands.TableNever
table_never h c first only = (
  no_table h c first only,
  λ did two.
      let w = drained h c did in
      let k = stops_so (eqb (queued (kernel (then h c)).boxes) 0) (ltb (value₁ h c) (argument c 1)) (sym w.ends ∙ two) in
      let some = eqb-false (queued (kernel (then h c)).boxes) 0 k.0 in
      no_table (then h c) (next_call c) first (drain_only h c first only did) (w.stopped (omega arith) (ltb-true _ _ k.1)),
)

-- ## LOAD
module _ (s : State) (q : ℕ) (d : List ℕ) (z : Areas) where
  load_does : class_of (edition_of q) d ≡ 0 → WholeFor q z.tables → q < slots → is_open s.hand ≡ false → slot_used s q objects ≡ false →
      answer_to s (LOAD ∷ q ∷ replicate 70 0) d z ≡ load_done q d s z
  unfolding answer_to command choose load load_tests lowest spoilt blank every_from outside unless unless_fault
  load_does good whole l closed unused =
      rw (
        good,
        eq-eqb (length z.tables.plain) table_bytes whole.plain,
        not_bad q z.tables whole,
        closed,
        unused,
        le-ltb q 0 (omega arith),
        le-ltb 4 q (omega arith),
      )
      refl

pub loads : Demands.Loads
unfolding kernel reply_of bytes
loads h c q e good plain guarded l closed unused =
    let whole : WholeFor q c.areas.tables = record { plain = plain; guarded = guarded } in
    let w = ap (λ r. answer_to (kernel h) r c.chart c.areas) e ∙ load_does (kernel h) q c.chart c.areas good whole l closed unused in (
      ap (λ a. get_or a.reply 0 0) w,
      ap (λ a. get_or a.reply 4 0) w,
      ap (λ a. is_loaded a.state q) w ∙ eq-eqb _ 1 (get_or-set_same (kernel h).loaded q 1 0 (omega (arith, (kept h).seats.loaded_length))),
    )
