-- What a call did that was done: the command's own answer, and that none of its tests holds.
use mathlib.Core.Bool.{Bool, true, false}
use mathlib.Core.List.{List}
use mathlib.Core.Path.{◌≡◌, refl, sym, ap, ◌∙◌}
use Prim.Native.Nat.{ℕ, zero, suc, ◌+◌}
use native.Mathlib.Omega.{arith}
use lib.Dec.{eqb}
use lib.ListN.{length, get_or, set}
use Rattle.chart.specs.Chart.{class_of, states}
use Rattle.chart.specs.Flat.{answer_of, slot_bytes}
use Rattle.mail.specs.Box.{one}
use Rattle.machine.proofs.Tests.{unless_none}
use Rattle.machine.specs.Aside.{defer_tests, set_aside, defer, recall_tests, recall_done, recall, flush_tests, flushed, flush}
use Rattle.machine.specs.Charts.{filled, load_tests, load, start_row, start_tests, started_at, start, flag_tests, flag_changes, flag_set, flag}
use Rattle.machine.specs.Events.{new_tests, new_in, new, receivers, publish_tests, publish_done, publish, drop_tests, drop_event, freed_new, read_tests, payload_of, read}
use Rattle.machine.specs.Machine.{arg, generation, payload, spoilt, spoilt_new, choose, command, answer_to}
use Rattle.machine.specs.Numbers.{objects, edition_of, record_bytes}
use Rattle.machine.specs.Reply.{with_tables, done, ran, shown, Areas, Answer, answer, lowest, unless, unless_fault, reply_of, bytes}
use Rattle.machine.specs.State.{State, signal_in, side_of, with_loaded}
use Rattle.machine.specs.Steps.{next_tests, stepped, next_says, next, drain_from, drain_tests, drain_done, drain}
use Rattle.pool.specs.Row.{found}

abbrev pub number_of : Answer → ℕ
number_of a = get_or a.reply 0 0

-- What LOAD does with an accepted chart.
abbrev pub load_done : ℕ → List ℕ → State → Areas → Answer
load_done q d s z =
    answer (with_loaded (set s.loaded q 1) s) (done (states d) 0) (with_tables (filled q (slot_bytes (edition_of q) d) z.tables) z)

-- The answer a is b, where none of the tests l holds.
pub record Made (a : Answer) (l : List (ℕ × Bool)) (b : Answer) : Type 0 where
  pub none : lowest l ≡ 0
  pub is : a ≡ b

module _ (s : State) (z : Areas) (b : Answer) where
  refused-number : (n : ℕ) → number_of (unless (suc n) s z b) ≡ suc n
  unfolding unless reply_of bytes
  refused-number n = refl

  unless_made : (l : List (ℕ × Bool)) → number_of (unless (lowest l) s z b) ≡ 0 → Made (unless (lowest l) s z b) l b
  unless_made l e = go (lowest l) refl
    where
      go : (n : ℕ) → lowest l ≡ n → Made (unless (lowest l) s z b) l b
      go zero q = record { none = q; is = unless_none s z b (lowest l) q }
      go (suc n) q = let w : number_of (unless (suc n) s z b) ≡ 0 = rw q at e in absurd (omega (arith, refused-number n))

-- The command of a record that was done.
module _ (s : State) (r d : List ℕ) (z : Areas) (e : number_of (answer_to s r d z) ≡ 0) where
  pub is_long : eqb (length r) record_bytes ≡ true
  unfolding answer_to choose reply_of bytes
  is_long = go (eqb (length r) record_bytes) refl
    where
      go : (t : Bool) → eqb (length r) record_bytes ≡ t → t ≡ true
      go true u = refl
      go false u = let w : ◌≡◌ {A = ℕ} 1 0 = rw u at e in absurd (omega arith)

  is-command : (k : ℕ) → arg r 0 ≡ k → answer_to s r d z ≡ command k r d s z
  unfolding answer_to choose
  is-command k q = rw (is_long, q) refl

  by_command : (k : ℕ) (l : List (ℕ × Bool)) (b : Answer) → arg r 0 ≡ k → command k r d s z ≡ unless (lowest l) s z b → Made (answer_to s r d z) l b
  by_command k l b q w =
      let u : answer_to s r d z ≡ unless (lowest l) s z b = is-command k q ∙ w in
      let m = unless_made s z b l (sym (ap number_of u) ∙ e) in
      record { none = m.none; is = u ∙ m.is }

  -- the class of the chart by the edition of LOAD's slot
  abbrev class : ℕ
  class = class_of (edition_of (arg r 1)) d

  pub load_made : arg r 0 ≡ 1 → Made (answer_to s r d z) (load_tests (spoilt 1 r) (arg r 1) s z.tables) (unless_fault class s z (load_done (arg r 1) d s z))
  unfolding command choose load
  load_made q = by_command 1 _ _ q refl

  pub load_done_lem : arg r 0 ≡ 1 → (class ≡ 0) × (answer_to s r d z ≡ load_done (arg r 1) d s z)
  unfolding unless_fault reply_of bytes
  load_done_lem q = go class refl
    where
      m : Made (answer_to s r d z) (load_tests (spoilt 1 r) (arg r 1) s z.tables) (unless_fault class s z (load_done (arg r 1) d s z))
      m = load_made q

      go : (k : ℕ) → class ≡ k → (class ≡ 0) × (answer_to s r d z ≡ load_done (arg r 1) d s z)
      go zero u = (u, rw u at m.is)
      go (suc k) u = let w : ◌≡◌ {A = ℕ} 14 0 = sym (ap number_of (rw u at m.is)) ∙ e in absurd (omega arith)

  pub start_made : arg r 0 ≡ 2 → let a = answer_of (start_row z.tables (arg r 2)) in
      Made (answer_to s r d z) (start_tests (spoilt 3 r) (arg r 1) (arg r 2) (arg r 3) s z.tables)
      (answer (started_at s (arg r 1) (arg r 2) (arg r 3) a.next) (ran (arg r 1) 0 0 0 a) z)
  unfolding command choose start
  start_made q = by_command 2 _ _ q refl

  pub new_made : arg r 0 ≡ 3 → Made (answer_to s r d z) (new_tests (spoilt_new (arg r 2) r) (arg r 1) (arg r 2) s z.payloads)
      (new_in (found s.cells (arg r 2)) (arg r 1) (arg r 2) (payload r) s z)
  unfolding command choose new
  new_made q = by_command 3 _ _ q refl

  pub publish_made : arg r 0 ≡ 6 → Made (answer_to s r d z) (publish_tests (spoilt 4 r) (arg r 1) (generation r) s)
      (publish_done (receivers s (signal_in s (arg r 1)) objects) (arg r 1) s z)
  unfolding command choose publish
  publish_made q = by_command 6 _ _ q refl

  pub drop_made : arg r 0 ≡ 11 → Made (answer_to s r d z) (drop_tests (spoilt 4 r) (arg r 1) (generation r) s) (answer (freed_new s (arg r 1)) (done 0 0) z)
  unfolding command choose drop_event
  drop_made q = by_command 11 _ _ q refl

  pub next_made : arg r 0 ≡ 12 → Made (answer_to s r d z) (next_tests (spoilt 0 r) s z.tables) (answer (stepped s z.tables) (next_says s z.tables) z)
  unfolding command choose next
  next_made q = by_command 12 _ _ q refl

  pub read_made : arg r 0 ≡ 17 → Made (answer_to s r d z) (read_tests (spoilt 4 r) (arg r 1) (generation r) s z.payloads)
      (answer s (shown (payload_of s (arg r 1) z.payloads)) z)
  unfolding command choose read
  read_made q = by_command 17 _ _ q refl

  pub drain_made : arg r 0 ≡ 18 → Made (answer_to s r d z) (drain_tests (spoilt 1 r) s z.tables z.log)
      (drain_done (arg r 1) (drain_from (arg r 1) 0 s z.tables z.log) z)
  unfolding command choose drain
  drain_made q = by_command 18 _ _ q refl

  pub defer_made : arg r 0 ≡ 19 → Made (answer_to s r d z) (defer_tests (spoilt 1 r) (arg r 1) s)
      (answer (set_aside s.hand (arg r 1) s) (done (length (side_of s (arg r 1)) + 1) 0) z)
  unfolding command choose defer
  defer_made q = by_command 19 _ _ q refl

  pub recall_made : arg r 0 ≡ 20 → Made (answer_to s r d z) (recall_tests (spoilt 2 r) (arg r 1) (arg r 2) s)
      (recall_done (length (side_of s (arg r 1))) (arg r 1) (arg r 2) s z)
  unfolding command choose recall
  recall_made q = by_command 20 _ _ q refl

  pub flush_made : arg r 0 ≡ 21 → Made (answer_to s r d z) (flush_tests (spoilt 1 r) (arg r 1)) (answer (flushed s (arg r 1)) (done (length (side_of s (arg r 1))) 0) z)
  unfolding command choose flush
  flush_made q = by_command 21 _ _ q refl

  pub flag_made : arg r 0 ≡ 22 → let p = arg r 1 in let f = arg r 2 in let v = arg r 3 in
      Made (answer_to s r d z) (flag_tests (spoilt 3 r) p f v s) (answer (flag_set s p f v) (done (one (flag_changes s p f v)) 0) z)
  unfolding command choose flag
  flag_made q = by_command 22 _ _ q refl
