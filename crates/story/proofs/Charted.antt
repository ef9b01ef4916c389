-- Tables that hold the charts of their slots, and objects that rest in leaves of theirs: what START and NEXT read, and that steps keep it.
use mathlib.Core.Bool.{true}
use mathlib.Core.List.{List, [], ◌∷◌}
use mathlib.Core.Path.{◌≡◌, refl, sym, ap, ◌∙◌}
use Prim.Native.Nat.{ℕ, zero, suc, ◌+◌, ◌*◌, ◌-◌, ◌≤◌, ◌<◌}
use native.Mathlib.Omega.{arith}
use borrow.Author.Tests.{le-leb}
use lib.ListN.{get_or, take, drop}
use lib.Seq.{take-take}
use Rattle.ground.specs.Lists.{set_all}
use Rattle.ground.specs.Tab.{tab_ext}
use Rattle.chart.proofs.Theorems.{agreement, leaf-state, start-row-sound, step-leaf, step-read, step-rows-sound}
use Rattle.chart.specs.Chart.{class_of, among, is_signal, leaf, states}
use Rattle.chart.specs.Flat.{all_read, answer_of, place, row_at, rows_at, slot_bytes, start_sound}
use Rattle.chart.specs.Numbers.{each, first_signal, last_signal, slot_size, row_size}
use Rattle.chart.specs.Step
use Rattle.chart.specs.Step.{step}
use Rattle.chart.specs.declared.read.Edition.{Edition}
use Rattle.chart.specs.declared.read.Edition.TheVariants.{Plain, Guarded}
use Rattle.mail.specs.declared.Hand.TheVariants.{Nothing}
use Rattle.machine.proofs.KeepsSteps.{Ready, rows-within, step_ready, step_keeps, ended_hand}
use Rattle.machine.specs.Charts.{slot_table, start_row}
use Rattle.machine.specs.Inv.{Inv}
use Rattle.machine.specs.Numbers.{slots, edition_of}
use Rattle.machine.specs.Reply.{BothTables, lowest}
use Rattle.machine.specs.State.{State, Objects, depth_of, rest_of}
use Rattle.machine.specs.Steps.{to_run, slot_to_run, coming, signal_of, next_rows, next_answer, step_tests, stepped, ended}
use Rattle.story.proofs.Draining.{onward}
use Rattle.story.proofs.Frames.{ended_same}
use Rattle.story.proofs.Slots.{table_in}

pub record Charted (loaded : List ℕ) (o : Objects) (tables : BothTables) (charts : ℕ → List ℕ) : Type 0 where
  pub good : (q : ℕ) → q < slots → get_or loaded q 0 ≡ 1 → class_of (edition_of q) (charts q) ≡ 0
  pub table : (q : ℕ) → q < slots → get_or loaded q 0 ≡ 1 → table_in tables q ≡ slot_bytes (edition_of q) (charts q)
  pub rests : (k : ℕ) → 0 < get_or o.depths k 0 → leaf (charts (get_or o.seats k 0)) (get_or o.rests k 0) ≡ true

-- A part of a front is that part of the whole.
part_of_front : (n a m : ℕ) (l : List ℕ) → a + n ≤ m → take n (drop a (take m l)) ≡ take n (drop a l)
part_of_front n zero m l h = take-take n m l (omega arith)
part_of_front n (suc a) zero l h = absurd (omega arith)
part_of_front n (suc a) (suc m) [] h = refl
part_of_front n (suc a) (suc m) (x ∷ l) h = part_of_front n a m l (omega arith)

-- The rows of a table that begins as that of a chart.
module _ (e : Edition) (t d : List ℕ) (holds : take (slot_size e) t ≡ slot_bytes e d) where
  row_there : (at : ℕ) → at + row_size ≤ slot_size e → row_at t at ≡ row_at (slot_bytes e d) at
  row_there at l = sym (part_of_front row_size at (slot_size e) t l) ∙ ap (λ (u : List ℕ). row_at u at) holds

  rows_there : (x g : ℕ) → place e x g 0 + row_size * each e ≤ slot_size e → rows_at e t x g ≡ rows_at e (slot_bytes e d) x g
  unfolding place
  rows_there x g l = tab_ext _ _ (each e) (λ i m. row_there (place e x g i) (omega arith))

row_fits : (e : Edition) → row_size ≤ slot_size e
row_fits Plain = omega arith
row_fits Guarded = omega arith

-- What START reads in a slot.
module _ (tables : BothTables) (q : ℕ) (d : List ℕ) (holds : table_in tables q ≡ slot_bytes (edition_of q) d) (good : class_of (edition_of q) d ≡ 0) where
  row : start_row tables q ≡ row_at (slot_bytes (edition_of q) d) 0
  unfolding start_row
  row = row_there (edition_of q) (slot_table tables q) d holds 0 (row_fits (edition_of q))

  pub start-answer : answer_of (start_row tables q) ≡ Step.start d
  start-answer = ap answer_of row ∙ (agreement (edition_of q) d good).starts

  pub start-sound : start_sound (edition_of q) (start_row tables q) ≡ true
  start-sound = ap (start_sound (edition_of q)) row ∙ start-row-sound (edition_of q) d good

-- START reads the table of its slot, and no other,
pub same_start : (t u : BothTables) (q : ℕ) → slot_table t q ≡ slot_table u q → start_row t q ≡ start_row u q
unfolding start_row
same_start t u q same = rw same refl

-- and a step that of its object's slot.
module _ (s : State) (t u : BothTables) (same : slot_table t (slot_to_run s) ≡ slot_table u (slot_to_run s)) where
  pub same_rows : next_rows s t ≡ next_rows s u
  unfolding next_rows
  same_rows = rw same refl

  pub same_answer : next_answer s t ≡ next_answer s u
  unfolding next_answer
  same_answer = rw same_rows refl

  pub same_step : stepped s t ≡ stepped s u
  unfolding stepped
  same_step = rw same_answer refl

-- The step that a state takes next.
module _ (s : State) (tables : BothTables) (charts : ℕ → List ℕ) (i : Inv s) (r : Ready s) (c : Charted s.loaded s.objects tables charts) where
  abbrev slot : ℕ
  slot = slot_to_run s

  abbrev chart : List ℕ
  chart = charts slot

  abbrev rest : ℕ
  rest = rest_of s (to_run s)

  abbrev signal : ℕ
  signal = signal_of s (coming s)

  abbrev pub step_taken : Step.Answer
  step_taken = step chart (s.flags (to_run s)) rest signal

  deep : 0 < depth_of s (to_run s)
  deep = omega (arith, i.mail.room (to_run s - 1), r.mail)

  good : class_of (edition_of slot) chart ≡ 0
  good = let seat = i.seats.seated (to_run s - 1) deep in c.good slot seat.0 seat.1

  at-state : among (states chart) rest ≡ true
  at-state = leaf-state chart rest (c.rests (to_run s - 1) deep)

  is-signal : is_signal signal ≡ true
  unfolding is_signal
  is-signal = let g = (rows-within s i r).signal in rw (le-leb first_signal signal g.low, le-leb signal last_signal g.high) refl

  rows : next_rows s tables ≡ rows_at (edition_of slot) (slot_bytes (edition_of slot) chart) rest signal
  unfolding next_rows
  rows =
      let seat = i.seats.seated (to_run s - 1) deep in
      rows_there (edition_of slot) (slot_table tables slot) chart (c.table slot seat.0 seat.1) rest signal (rows-within s i r).end

  pub next-answer : next_answer s tables ≡ step_taken
  unfolding next_answer
  next-answer = rw rows (step-read (edition_of slot) chart good rest at-state (s.flags (to_run s)) signal is-signal)

  pub next-sound : all_read (edition_of slot) (s.flags (to_run s)) (next_rows s tables) ≡ true
  next-sound = rw rows (step-rows-sound (edition_of slot) chart good rest at-state (s.flags (to_run s)) signal is-signal)

  pub stepped_charted : Charted (stepped s tables).loaded (stepped s tables).objects tables charts
  unfolding stepped
  stepped_charted = record {
    good = c.good;
    table = c.table;
    rests =
        set_all (λ k (x : ℕ). 0 < get_or s.objects.depths k 0 → leaf (charts (get_or s.objects.seats k 0)) x ≡ true) s.objects.rests 0 (to_run s - 1) _
        (omega (arith, r.low, r.high, i.mail.boxes-length, i.seats.rests_length))
        (λ k ne. c.rests k)
        (λ l. rw next-answer (step-leaf (edition_of slot) chart good (s.flags (to_run s)) rest signal (c.rests (to_run s - 1) deep)));
  }

  pub step_charted : Charted (ended (stepped s tables)).loaded (ended (stepped s tables)).objects tables charts
  step_charted = let e = ended_same (stepped s tables) in rw (e.loaded, e.objects) stepped_charted

-- The steps of DRAIN.
pub onward_charted : (tables : BothTables) (charts : ℕ → List ℕ) (k : ℕ) (s : State) → Inv s → s.hand ≡ Nothing →
    ((j : ℕ) → j < k → lowest (step_tests (onward tables j s) tables) ≡ 0) → Charted s.loaded s.objects tables charts →
    Charted (onward tables k s).loaded (onward tables k s).objects tables charts
unfolding onward
onward_charted tables charts zero s i e each c = c
onward_charted tables charts (suc k) s i e each c =
    let t = each 0 (omega arith) in
    onward_charted tables charts k (ended (stepped s tables)) (step_keeps tables s i e t) (ended_hand (stepped s tables)) (λ j l. each (suc j) (omega arith))
    (step_charted s tables charts i (step_ready s tables t) c)
