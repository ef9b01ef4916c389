-- What a step finds: the object that is to run, its event and its rows; and the line of the log that it writes.
use mathlib.Core.Bool.{true, false}
use mathlib.Core.List.{List, []}
use mathlib.Core.Logic.{⊎_elim}
use mathlib.Core.Path.{◌≡◌, refl, sym, ap, ◌∙◌}
use Prim.Native.Nat.{ℕ, zero, suc, ◌+◌, ◌*◌, ◌-◌, ◌<◌, ◌≤◌}
use native.Mathlib.Omega.{arith}
use borrow.Author.Tests.{eq-eqb, ne_eqb}
use borrow.Rule.Slice.PartMut.{put_mid}
use lib.Dec.{eqb}
use lib.ListN.{length, get_or, length-drop, get_or-eq_default}
use Rattle.chart.proofs.Theorems.{reading-gives, reading-row, reading-sound, row_of_answer, sound-is}
use Rattle.chart.specs.Flags.{Flags}
use Rattle.chart.specs.Flat.{all_read, place, row_at}
use Rattle.chart.specs.Held.{answer_at, is_sound, reading}
use Rattle.chart.specs.Numbers.{each, first_signal, row_size, slot_size}
use Rattle.chart.specs.declared.Reading.{Reading}
use Rattle.chart.specs.declared.read.Edition.{Edition}
use Rattle.ground.specs.Bools.{eq_or}
use Rattle.ground.specs.Parts.{part_over}
use Rattle.ground.specs.Tab.{get_or-tab}
use Rattle.machine.specs.Charts.{slot_table}
use Rattle.machine.specs.Numbers.{objects, slots, guarded_slot, edition_of, table_bytes, guarded_bytes, most_steps, log_bytes, reply_bytes}
use Rattle.machine.specs.Reply.{BothTables, IDLE, TABLE, lowest, over}
use Rattle.machine.specs.Run.{Run, Fit, seen}
use Rattle.machine.specs.State.{State, rest_of, slot_of}
use Rattle.machine.specs.Steps.{to_run, slot_to_run, coming, signal_of, next_answer, next_rows, step_tests}
use Rattle.mail.specs.Box.{box_at, front, highest, highest_of}
use Rattle.mail.specs.Entry.{hand_of}
use Rattle.pool.specs.Cell.{free, absent, generation_of}
use Rattle.pool.specs.Row.{blocks, generation_at}
use Rattle.drain.specs.Lent.{Above, Generations, Lies, Looks, Runs}
use Rattle.drain.specs.declared.Coming.{Coming}

-- line n of the log, as the part that is written comes back
pub log_line_lem : (log line : List ℕ) (n : ℕ) → length log ≡ log_bytes → n < most_steps → length line ≡ reply_bytes → (v : List ℕ) → v ≡ line →
    let a = reply_bytes * n in put_mid a (a + reply_bytes - a) log v ≡ over log a line
unfolding over
log_line_lem log line n l h e v w =
    let a = reply_bytes * n in
    let k = a + reply_bytes - a in
    let z : k ≡ reply_bytes = omega arith in
    part_over a k log v (ap length w ∙ e ∙ sym z) ∙ rw w refl

-- Mailboxes of which those from p on are empty.
module _ (bs : List (List ℕ)) (p : ℕ) (above : Above p bs) where
  top_of : (n : ℕ) → 0 < p → p ≤ n → (length (box_at bs (p - 1)) ≡ 0 → ⊥) → p ≡ highest_of bs n
  unfolding highest_of
  top_of zero l h ne = absurd (omega arith)
  top_of (suc n) l h ne =
      ⊎_elim
      (λ e. let z : p - 1 ≡ n = omega arith in rw (ne_eqb (length (box_at bs n)) 0 (rw z at ne)) e)
      (λ d. rw (eq-eqb (length (box_at bs n)) 0 (above n (omega arith))) (top_of n l (omega arith) ne))
      (eq_or p (suc n))

  -- the next below is the highest, if it has mail
  pub top_is : 0 < p → p ≤ length bs → (length (box_at bs (p - 1)) ≡ 0 → ⊥) → p ≡ highest bs
  top_is l h ne = top_of (length bs) l h ne

  pub above_below : length (box_at bs (p - 1)) ≡ 0 → Above (p - 1) bs
  above_below e q h = ⊎_elim (λ z. rw z e) (λ d. above q (omega arith)) (eq_or q (p - 1))

-- at first all of them
pub above_all : (bs : List (List ℕ)) (n : ℕ) → length bs ≤ n → Above n bs
above_all bs n l q h = ap length (get_or-eq_default bs [] (omega arith))

none_of : (bs : List (List ℕ)) → Above 0 bs → (n : ℕ) → highest_of bs n ≡ 0
unfolding highest_of
none_of bs above zero = refl
none_of bs above (suc n) = rw (eq-eqb (length (box_at bs n)) 0 (above n (omega arith))) (none_of bs above n)

pub none_is : (bs : List (List ℕ)) → Above 0 bs → 0 ≡ highest bs
none_is bs above = sym (none_of bs above (length bs))

-- The table t of slot q is as long as its edition d has it, where what is lent is as long as it should be.
pub table_long : (tables : BothTables) (q : ℕ) (d : Edition) → d ≡ edition_of q → (t : List ℕ) → t ≡ slot_table tables q → q < slots →
    length tables.plain ≡ table_bytes → (q ≡ guarded_slot → length tables.guarded ≡ guarded_bytes) → slot_size d ≤ length t
unfolding edition_of slot_table
table_long tables q d o t u h plain guarded =
    ⊎_elim
    (λ e. rw (o, u, eq-eqb q guarded_slot e) (omega (arith, guarded e)))
    (λ ne. rw (o, u, ne_eqb q guarded_slot ne, length-drop) (omega arith))
    (eq_or q guarded_slot)

-- What was found at rest x in the table t is what the step in the state s reads: whether it may be taken, and what it gives.
pub record Finds (s : State) (tables : BothTables) (t : List ℕ) (x : ℕ) (found : Reading) : Type 0 where
  pub stops : is_sound found ≡ false → lowest (step_tests s tables) ≡ TABLE
  pub steps : is_sound found ≡ true → lowest (step_tests s tables) ≡ 0
  pub gives : is_sound found ≡ true → answer_at t x found ≡ next_answer s tables
  pub lies : Lies t found

-- The tests of a step in the state s, of which p is the object that is to run.
module _ (s : State) (tables : BothTables) (p : ℕ) (e : p ≡ to_run s) where
  pub none_queued : p ≡ 0 → lowest (step_tests s tables) ≡ IDLE
  unfolding step_tests lowest
  none_queued z = rw (eq-eqb (to_run s) 0 (sym e ∙ z)) refl

  -- The rows for the event that comes, in the table of the object's slot.
  module _ (f : Fit s) (g : ℕ) (w : g ≡ signal_of s (coming s)) (x : ℕ) (r : x ≡ rest_of s p) (d : Edition) (o : d ≡ edition_of (slot_of s p))
      (t : List ℕ) (u : t ≡ slot_table tables (slot_of s p)) (long : slot_size d ≤ length t) where
    pub rows_lie : (1 ≤ x) × (first_signal ≤ g) × (place d x g 0 + row_size * each d ≤ length t)
    rows_lie =
        let end : place d x g 0 + row_size * each d ≤ slot_size d = rw (o, r, w, e) f.end in
        (rw (r, e) f.rested, rw w f.signal.low, omega arith)

    module _ (found : Reading) (h : found ≡ reading d (s.flags p) t (place d x g 0) (each d)) where
      all_sound : is_sound found ≡ all_read (edition_of (slot_to_run s)) (s.flags (to_run s)) (next_rows s tables)
      unfolding next_rows
      all_sound = rw (h, o, u, r, w, e) (reading-sound _ _ _ _ _)

      found-gives : is_sound found ≡ true → answer_at t x found ≡ next_answer s tables
      unfolding next_rows next_answer
      found-gives k = rw (h, o, u, r, w, e) (reading-gives _ _ _ _ _ _ (rw (h, o, u, r, w, e) at k))

      found-lies : Lies t found
      found-lies at k =
          let row = reading-row d (s.flags p) t at (each d) (place d x g 0) (sym h ∙ k) in
          let is = sound-is d (row_at t at) row.0 in
          record { within = omega (arith, row.1, rows_lie.2); outcome = is.outcome; whole = row_of_answer d (row_at t at) is }

      pub finds : (p ≡ 0 → ⊥) → Finds s tables t x found
      unfolding step_tests lowest
      finds ne =
          let queued : eqb (to_run s) 0 ≡ false = ne_eqb (to_run s) 0 (λ z. ne (e ∙ z)) in
          record {
            stops = λ k. rw (queued, ← all_sound, k) refl;
            steps = λ k. rw (queued, ← all_sound, k) refl;
            gives = found-gives;
            lies = found-lies;
          }

-- The event that comes to the object p that is to run.
pub coming-is : (s : State) (p : ℕ) → p ≡ to_run s → (x : ℕ) → x ≡ front s.boxes (p - 1) → hand_of x ≡ coming s
unfolding coming
coming-is s p e x h = rw (h, e) refl

-- What an answer needs, of the object p that is to run.
pub runs : (s : State) (p : ℕ) → p ≤ objects → (l : Coming) → Looks s (coming s) l → Fit s → Runs p l
runs s p h l w f = record { object = omega arith; signal = rw w.signal (omega (arith, f.signal.high)) }

pub seen_generations : (gens signals seats : List ℕ) (flags : ℕ → Flags) (x : Run) → Generations (seen gens signals seats flags x) gens
unfolding generation_at generation_of
seen_generations gens signals seats flags x b h = ap generation_of (get_or-tab (λ k. free (get_or gens k 0)) blocks b absent h)
