-- Demand 3: as long as nobody but the kernel writes to the tables they hold the charts of the last LOADs, and every object rests in a leaf
-- of its chart.
use mathlib.Core.Bool.{Bool, true, false, cond, not, ◌&&◌}
use mathlib.Core.List.{List}
use mathlib.Core.Logic.{⊎_elim}
use mathlib.Core.Path.{◌≡◌, refl, sym, ap, ◌∙◌}
use Prim.Native.Nat.{ℕ, zero, suc, ◌-◌, ◌≤◌, ◌<◌}
use native.Mathlib.Decide.{ℕ_discrete}
use native.Mathlib.Omega.{arith}
use borrow.Author.Tests.{eqb-true, eq-eqb, ne_eqb}
use lib.Dec.{eqb}
use lib.ListN.{length, get_or, set, replicate}
use lib.Seq.{get_or-set_same, get_or-set_other}
use Rattle.ground.specs.Bools.{eq_or, no_yes}
use Rattle.ground.specs.Lists.{set_all}
use Rattle.chart.proofs.Theorems.{slot_size_lem, start-leaf}
use Rattle.chart.specs.Chart.{class_of, leaf}
use Rattle.chart.specs.Flat.{answer_of, slot_bytes}
use Rattle.chart.specs.Numbers.{slot_size}
use Rattle.chart.specs.Step
use Rattle.machine.proofs.Parts.{has-place}
use Rattle.machine.proofs.Replies.{replies}
use Rattle.machine.proofs.Tests.{none_holds, within_high}
use Rattle.machine.specs.Charts.{filled, slot_used, load_tests, start_row, started_at}
use Rattle.machine.specs.Machine.{spoilt}
use Rattle.machine.specs.Numbers.{objects, slots, edition_of}
use Rattle.machine.specs.Reply.{BothTables}
use Rattle.machine.specs.State.{State, Objects, started, slot_of}
use Rattle.machine.specs.Steps.{slot_to_run}
use Rattle.story.specs.Calls.{Call, Story, fresh, then, kernel, answer_in, left_tables, OnlyKernelTables}
use Rattle.story.specs.Table.{LOAD, START, NEXT, DRAIN}
use Rattle.story.specs.Terms.{argument, command_of, number, Did, does, chart_in}
use Rattle.story.proofs.Charted.{Charted, start-answer, same_start, same_step, stepped_charted, onward_charted}
use Rattle.story.proofs.Frames.{Frame, framed}
use Rattle.story.proofs.Lent.{WholeFor, whole_for, tables-before, tables-lent, slot_lent, tables_same, left_whole_for, tables-filled}
use Rattle.story.proofs.Made.{load_made, load_done_lem}
use Rattle.story.proofs.Pairs.{drain_whole, drain_closed, came, drain-state}
use Rattle.story.proofs.Refusals.{kept}
use Rattle.story.proofs.Slots.{table_in, filled-here, filled_other}
use Rattle.story.proofs.Starting.{start_did}
use Rattle.story.proofs.Taking.{next_ready, next-steps, next_whole}

-- ## The charts
module _ (h : Story) (c : Call) where
  pub does_not : (n : ℕ) → (Did n h c → ⊥) → does n h c ≡ false
  unfolding does
  does_not n ne = go (eqb (command_of c) n) refl (eqb (number h c) 0) refl
    where
      go : (t : Bool) → eqb (command_of c) n ≡ t → (u : Bool) → eqb (number h c) 0 ≡ u → (t && u) ≡ false
      go true e true f = absurd (ne (eqb-true _ n e, eqb-true _ 0 f))
      go true e false f = refl
      go false e u f = refl

  pub does_so : (n : ℕ) → Did n h c → does n h c ≡ true
  unfolding does
  does_so n did = rw (eq-eqb (command_of c) n did.0, eq-eqb (number h c) 0 did.1) refl

  pub charts_same : (Did LOAD h c → ⊥) → (q : ℕ) → chart_in (then h c) q ≡ chart_in h q
  unfolding chart_in
  charts_same ne q = rw (does_not LOAD ne) refl

  pub unchanged_state : (number h c ≡ 0 → ⊥) → kernel (then h c) ≡ kernel h
  unfolding kernel
  unchanged_state ne = ((replies (kernel h) c.command c.chart c.areas).refusal (omega arith)).state

  pub unchanged_areas : (number h c ≡ 0 → ⊥) → (answer_in h c).areas ≡ c.areas
  unchanged_areas ne = ((replies (kernel h) c.command c.chart c.areas).refusal (omega arith)).areas

  pub frame : Frame (command_of c) (kernel h) c.areas (answer_in h c)
  frame = framed (kernel h) c.command c.chart c.areas

record SameObjects (o u : Objects) : Type 0 where
  depths : u.depths ≡ o.depths
  rests : u.rests ≡ o.rests
  seats : u.seats ≡ o.seats

charted_same : {l m : List ℕ} {o u : Objects} {t v : BothTables} {f g : ℕ → List ℕ} →
    m ≡ l → SameObjects o u → v ≡ t → ((q : ℕ) → g q ≡ f q) → Charted l o t f → Charted m u v g
charted_same {o = o} {u = u} e x y z c = record {
  good = λ q l k. rw (z q) (c.good q l (rw e at k));
  table = λ q l k. rw (y, z q) (c.table q l (rw e at k));
  rests = λ k l. rw (x.rests, x.seats, z (get_or o.seats k 0)) (c.rests k (rw x.depths at l));
}

objects_same : {o u : Objects} → u ≡ o → SameObjects o u
objects_same e = record { depths = ap (λ o. o.depths) e; rests = ap (λ o. o.rests) e; seats = ap (λ o. o.seats) e }

-- a slot is filled that no object uses
module _ (l : List ℕ) (o : Objects) (t : BothTables) (f : ℕ → List ℕ) (c : Charted l o t f) (q : ℕ) (is-slot : q < slots) where
  load_charted : (d : List ℕ) → WholeFor q t → class_of (edition_of q) d ≡ 0 → ((k : ℕ) → 0 < get_or o.depths k 0 → get_or o.seats k 0 ≡ q → ⊥) →
      Charted (set l q 1) o (filled q (slot_bytes (edition_of q) d) t) (λ k. cond (eqb q k) d (f k))
  load_charted d whole good unused = record {
    good = λ k m e. (fill k (ℕ_discrete k q) m e).0;
    table = λ k m e. (fill k (ℕ_discrete k q) m e).1;
    rests = λ k m. rw (ne_eqb q (get_or o.seats k 0) (λ e. unused k m (sym e))) (c.rests k m);
  }
    where
      long : length (slot_bytes (edition_of q) d) ≡ slot_size (edition_of q)
      long = slot_size_lem (edition_of q) d

      part : ℕ → List ℕ
      part k = table_in (filled q (slot_bytes (edition_of q) d) t) k

      fill : (k : ℕ) → Dec (k ≡ q) → k < slots → get_or (set l q 1) k 0 ≡ 1 →
          let x = cond (eqb q k) d (f k) in (class_of (edition_of k) x ≡ 0) × (part k ≡ slot_bytes (edition_of k) x)
      fill k (yes e) m u = rw (e, eq-eqb q q refl) (good, filled-here q _ t is-slot whole long)
      fill k (no ne) m u =
          let v : get_or l k 0 ≡ 1 = sym (get_or-set_other l q k 1 0 ne) ∙ u in
          rw (ne_eqb q k (λ e. ne (sym e))) (c.good k m v, filled_other q _ t is-slot whole long k m ne ∙ c.table k m v)

  -- an object is started on a slot that is loaded
  start_charted : (k n : ℕ) → k < length o.depths → length o.rests ≡ length o.depths → length o.seats ≡ length o.depths → get_or l q 0 ≡ 1 →
      Charted l (record { depths = set o.depths k n; rests = set o.rests k (Step.start (f q)).next; seats = set o.seats k q }) t f
  start_charted k n m x y on = record {
    good = c.good;
    table = c.table;
    rests =
        set_all (λ j (v : ℕ). 0 < v → leaf (f (get_or (set o.seats k q) j 0)) (get_or (set o.rests k (Step.start (f q)).next) j 0) ≡ true) o.depths 0 k n m
        (λ j ne u. rw (get_or-set_other o.seats k j q 0 ne, get_or-set_other o.rests k j (Step.start (f q)).next 0 ne) (c.rests j u))
        (λ u. rw (get_or-set_same o.seats k q 0 (omega arith), get_or-set_same o.rests k (Step.start (f q)).next 0 (omega arith)) (start-leaf (edition_of q) (f q) (c.good q is-slot on)));
  }

zeros-at : (n i : ℕ) → get_or {A = ℕ} (replicate n 0) i 0 ≡ 0
zeros-at zero i = refl
zeros-at (suc n) zero = refl
zeros-at (suc n) (suc i) = zeros-at n i

-- ## Each call keeps it
-- a slot that no started object uses
pub unused_slot : (s : State) (q n : ℕ) → slot_used s q n ≡ false → (p : ℕ) → 1 ≤ p → p ≤ n → started s p ≡ true → slot_of s p ≡ q → ⊥
unfolding slot_used
unused_slot s q zero e p low high on is = absurd (omega arith)
unused_slot s q (suc n) e p low high on is = go (started s (suc n) && eqb (slot_of s (suc n)) q) refl (ℕ_discrete p (suc n)) (unused_slot s q n)
  where
    go : (t : Bool) → (started s (suc n) && eqb (slot_of s (suc n)) q) ≡ t → Dec (p ≡ suc n) →
        (slot_used s q n ≡ false → (p : ℕ) → 1 ≤ p → p ≤ n → started s p ≡ true → slot_of s p ≡ q → ⊥) → ⊥
    go true f d rest = no_yes (sym e ∙ ap (λ b. cond b true (slot_used s q n)) f)
    go false f (yes k) rest =
        let u : started s (suc n) ≡ true = rw k at on in
        let v : eqb (slot_of s (suc n)) q ≡ true = eq-eqb _ q (rw k at is) in
        no_yes (sym f ∙ rw (u, v) refl)
    go false f (no ne) rest = rest (sym (ap (λ b. cond b true (slot_used s q n)) f) ∙ e) p low (omega arith) on is

-- a LOAD that was done has the tables with their lengths, and a slot that there is
pub load-within : (h : Story) (c : Call) → Did LOAD h c → WholeFor (argument c 1) c.areas.tables × (argument c 1 < slots)
unfolding load_tests
load-within h c did =
    let m = load_made (kernel h) c.command c.chart c.areas did.1 did.0 in
    let n = none_holds (load_tests (spoilt 1 c.command) (argument c 1) (kernel h) c.areas.tables) refl m.none in
    (whole_for (argument c 1) c.areas.tables n.1.0 n.1.1.0, omega (arith, within_high 0 4 (argument c 1) n.1.1.1.0))

-- its slot is used by no object, by the object's place
pub load_unused : (h : Story) (c : Call) → Did LOAD h c → (k : ℕ) → 0 < get_or (kernel h).objects.depths k 0 → get_or (kernel h).objects.seats k 0 ≡ argument c 1 → ⊥
unfolding load_tests
load_unused h c did k l e =
    let s = kernel h in
    let m = load_made s c.command c.chart c.areas did.1 did.0 in
    let n = none_holds (load_tests (spoilt 1 c.command) (argument c 1) s c.areas.tables) refl m.none in
    let z : suc k - 1 ≡ k = omega arith in
    let b = has-place s.objects.depths k l in
    unused_slot s (argument c 1) objects n.1.1.1.1.1.0 (suc k) (omega arith) (omega (arith, b, (kept h).seats.depths_length))
    (rw z (ap not (ne_eqb (get_or s.objects.depths k 0) 0 (λ e. omega arith))))
    (rw z e)

-- what a START reads is its chart's start
pub start-lent : (h : Story) (c : Call) (first : BothTables) → OnlyKernelTables first (then h c) →
    Charted (kernel h).loaded (kernel h).objects (left_tables first h) (chart_in h) → Did START h c →
    answer_of (start_row c.areas.tables (argument c 2)) ≡ Step.start (chart_in h (argument c 2))
start-lent h c first only was did =
    let m = start_did h c did in
    let q = argument c 2 in
    ap answer_of (same_start c.areas.tables (left_tables first h) q (slot_lent first h c only q m.whole))
    ∙ start-answer (left_tables first h) q (chart_in h q) (was.table q m.is-slot m.on) (was.good q m.is-slot m.on)

module _ (h : Story) (c : Call) (first : BothTables) (only : OnlyKernelTables first (then h c))
    (was : Charted (kernel h).loaded (kernel h).objects (left_tables first h) (chart_in h)) where
  abbrev Next : Type 0
  Next = Charted (kernel (then h c)).loaded (kernel (then h c)).objects (left_tables first (then h c)) (chart_in (then h c))

  -- a call that is no LOAD leaves the tables, and the slots' charts
  module _ (ne : command_of c ≡ LOAD → ⊥) where
    same_left : left_tables first (then h c) ≡ left_tables first h
    same_left = tables_same first h c only ((frame h c).tables ne)

    same_charts : (q : ℕ) → chart_in (then h c) q ≡ chart_in h q
    same_charts = charts_same h c (λ did. ne did.0)

  refused-next : (number h c ≡ 0 → ⊥) → Next
  refused-next ne =
      let e = unchanged_state h c ne in
      charted_same (ap (λ s. s.loaded) e) (objects_same (ap (λ s. s.objects) e)) (tables_same first h c only (ap (λ z. z.tables) (unchanged_areas h c ne)))
      (charts_same h c (λ did. ne did.1)) was

  load-next : Did LOAD h c → Next
  unfolding kernel chart_in
  load-next did =
      let s = kernel h in
      let q = argument c 1 in
      let v = load-within h c did in
      let w = load_done_lem s c.command c.chart c.areas did.1 did.0 in
      let e = w.1 in
      charted_same (ap (λ a. a.state.loaded) e) (objects_same (ap (λ a. a.state.objects) e))
      (tables-filled first h c only q v.0 _ (ap (λ a. a.areas.tables) e))
      (λ k. rw (does_so h c LOAD did) refl)
      (load_charted s.loaded s.objects (left_tables first h) (chart_in h) was q v.1 c.chart
      (left_whole_for first h c only q v.0) w.0 (load_unused h c did))

  start-next : Did START h c → Next
  unfolding kernel started_at
  start-next did =
      let s = kernel h in
      let p = argument c 1 in
      let q = argument c 2 in
      let m = start_did h c did in
      let ok = (kept h).seats in
      let v = start-lent h c first only was did in
      let ne : command_of c ≡ LOAD → ⊥ = λ e. omega (arith, did.0) in
      let e = m.is in
      charted_same (ap (λ a. a.state.loaded) e)
      (record {
        depths = ap (λ a. a.state.objects.depths) e;
        rests = ap (λ a. a.state.objects.rests) e ∙ ap (λ b. set s.objects.rests (p - 1) b.next) v;
        seats = ap (λ a. a.state.objects.seats) e;
      })
      (same_left ne)
      (same_charts ne)
      (start_charted s.loaded s.objects (left_tables first h) (chart_in h) was q m.is-slot (p - 1) (argument c 3)
      (omega (arith, ok.depths_length, m.low, m.high)) (ok.rests_length ∙ sym ok.depths_length) (ok.seats_length ∙ sym ok.depths_length) m.on)

  next-next : Did NEXT h c → Next
  unfolding kernel
  next-next did =
      let s = kernel h in
      let ne : command_of c ≡ LOAD → ⊥ = λ e. omega (arith, did.0) in
      let e = (next-steps h c did).state ∙ same_step s c.areas.tables (left_tables first h) (slot_lent first h c only (slot_to_run s) (next_whole h c did)) in
      charted_same (ap (λ s. s.loaded) e) (objects_same (ap (λ s. s.objects) e)) (same_left ne) (same_charts ne)
      (stepped_charted s (left_tables first h) (chart_in h) (kept h) (next_ready h c did) was)

  drain-next : Did DRAIN h c → Next
  drain-next did =
      let s = kernel h in
      let ne : command_of c ≡ LOAD → ⊥ = λ e. omega (arith, did.0) in
      let w = came h c did in
      let e = drain-state h c did ∙ w.1.state in
      let lends = tables-lent first h c only (drain_whole h c did) in
      charted_same (ap (λ s. s.loaded) e) (objects_same (ap (λ s. s.objects) e)) (same_left ne ∙ sym lends) (same_charts ne)
      (onward_charted c.areas.tables (chart_in h) w.0 s (kept h) (drain_closed h c did) w.1.each
      (charted_same refl (objects_same refl) lends (λ q. refl) was))

  other_next : (command_of c ≡ LOAD → ⊥) → (command_of c ≡ START → ⊥) → (command_of c ≡ NEXT → ⊥) → (command_of c ≡ DRAIN → ⊥) → Next
  unfolding kernel
  other_next n1 n2 n3 n4 =
      let f = frame h c in
      charted_same (f.loaded n1) (record { depths = f.depths n2; rests = f.rests n2 n3 n4; seats = f.seats n2 }) (same_left n1) (same_charts n1) was

  each_next : Next
  each_next =
      ⊎_elim (λ d.
      ⊎_elim (λ e. load-next (e, d)) (λ n1.
      ⊎_elim (λ e. start-next (e, d)) (λ n2.
      ⊎_elim (λ e. next-next (e, d)) (λ n3.
      ⊎_elim (λ e. drain-next (e, d)) (λ n4. other_next n1 n2 n3 n4) (eq_or (command_of c) DRAIN)) (eq_or (command_of c) NEXT)) (eq_or (command_of c) START)) (eq_or (command_of c) LOAD))
      refused-next
      (eq_or (number h c) 0)

pub charted : (h : Story) (first : BothTables) → OnlyKernelTables first h → Charted (kernel h).loaded (kernel h).objects (left_tables first h) (chart_in h)
charted fresh first only = unfold kernel in record {
  good = λ q l e. absurd (omega (arith, zeros-at slots q));
  table = λ q l e. absurd (omega (arith, zeros-at slots q));
  rests = λ k l. absurd (omega (arith, zeros-at objects k));
}
charted (then h c) first only = each_next h c first only (charted h first (tables-before first h c only))
