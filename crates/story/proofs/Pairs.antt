-- NEXT and END of a story, and DRAIN as so many of them.
use mathlib.Core.Bool.{Bool, true, false, cond, not, ◌&&◌}
use mathlib.Core.List.{List, [], ◌∷◌}
use mathlib.Core.Path.{◌≡◌, refl, sym, ap, ◌∙◌, subst}
use Prim.Native.Nat.{ℕ, zero, suc, ◌+◌, ◌*◌, ◌≤◌, ◌<◌}
use native.Mathlib.Decide.{dec_lt}
use native.Mathlib.Nat.{zero-add}
use native.Mathlib.Omega.{arith}
use borrow.Author.Tests.{eq-eqb, ne_eqb, eqb-true, ltb-true, not-false}
use lib.Dec.{eqb, ltb}
use lib.ListN.{length, get_or, replicate, get_or-eq_default}
use Rattle.ground.specs.Bytes.{blank}
use Rattle.ground.specs.Every.{every-at}
use Rattle.ground.specs.Range.{every_from}
use Rattle.chart.specs.Flat.{all_read}
use Rattle.mail.specs.Box.{queued}
use Rattle.mail.specs.declared.Hand.{Hand}
use Rattle.mail.specs.declared.Hand.TheVariants.{Nothing, Block, Timer}
use Rattle.machine.proofs.Drain.{drain_falls}
use Rattle.machine.proofs.KeepsSteps.{Ready, step_ready, coming-event, closed_hand, ended_hand}
use Rattle.machine.proofs.Tests.{NoneHolds, none_holds, unless_none}
use Rattle.machine.specs.Inv.{Inv, IsEvent}
use Rattle.machine.specs.Machine.{spoilt, choose, command, answer_to}
use Rattle.machine.specs.Numbers.{guarded_slot, edition_of, reply_bytes, table_bytes, guarded_bytes, log_bytes}
use Rattle.machine.specs.Reply.{TABLE, Areas, Answer, BothTables, answer, lowest, unless, reply_of, bytes}
use Rattle.machine.specs.State.{State, is_open}
use Rattle.machine.specs.Steps.{to_run, slot_to_run, coming, next_rows, step_tests, next_tests, stepped, next_says, next, end_tests, ended, end, Drained, drain_from, drain_end, drain_tests, drain_done}
use Rattle.story.specs.Calls.{are_bytes, Call, Story, then, kernel, answer_in}
use Rattle.story.specs.Demands
use Rattle.story.specs.Table.{NEXT, END, DRAIN}
use Rattle.story.specs.Terms.{argument, reply, number, value₁, Did, next_call, end_call, steps, Drains}
use Rattle.story.proofs.Draining.{onward, onward-last, Comes, drain_comes}
use Rattle.story.proofs.Lent.{Whole}
use Rattle.story.proofs.Made.{Made, drain_made, number_of}
use Rattle.story.proofs.Numbers.{idle_is, unless-number}
use Rattle.story.proofs.Refusals.{kept}

-- ## One NEXT, one END
none_bad : (a b : Bool) → (a && (b && false)) ≡ false
none_bad true true = refl
none_bad true false = refl
none_bad false b = refl

module _ (s : State) (z : Areas) where
  abbrev step_answer : Answer
  step_answer = answer (stepped s z.tables) (next_says s z.tables) z

  module _ (whole : Whole z.tables) (closed : s.hand ≡ Nothing) where
    next-is : answer_to s (NEXT ∷ replicate 71 0) [] z ≡ unless (lowest (step_tests s z.tables)) s z step_answer
    unfolding answer_to command choose next next_tests lowest spoilt blank every_from is_open
    next-is =
        rw (
          eq-eqb (length z.tables.plain) table_bytes whole.plain,
          eq-eqb (length z.tables.guarded) guarded_bytes whole.guarded,
          none_bad (not (eqb (to_run s) 0)) (eqb (slot_to_run s) guarded_slot),
          closed,
        )
        refl

    next-number : number_of (answer_to s (NEXT ∷ replicate 71 0) [] z) ≡ lowest (step_tests s z.tables)
    unfolding next_says reply_of bytes
    next-number = ap number_of next-is ∙ unless-number s z (lowest (step_tests s z.tables)) step_answer refl

    next-does : lowest (step_tests s z.tables) ≡ 0 → answer_to s (NEXT ∷ replicate 71 0) [] z ≡ step_answer
    next-does e = next-is ∙ unless_none s z step_answer (lowest (step_tests s z.tables)) e

  end-does : is_open s.hand ≡ true → (answer_to s (END ∷ replicate 71 0) [] z).state ≡ ended s
  unfolding answer_to command choose end end_tests lowest spoilt blank every_from unless
  end-does o = rw o refl

-- after a step a step is open
event_open : (h : Hand) → IsEvent h → is_open h ≡ true
unfolding IsEvent is_open
event_open Nothing e = absurd e
event_open (Block b) e = refl
event_open (Timer t g) e = refl

stepped_open : (s : State) (tables : BothTables) → Inv s → Ready s → is_open (stepped s tables).hand ≡ true
unfolding stepped
stepped_open s tables i r = event_open (coming s) (coming-event s i r)

kernel-next : (h : Story) (c : Call) → kernel (then h (next_call c)) ≡ (answer_to (kernel h) (NEXT ∷ replicate 71 0) [] c.areas).state
unfolding kernel next_call
kernel-next h c = refl

kernel-end : (h : Story) (c : Call) → kernel (then h (end_call c)) ≡ (answer_to (kernel h) (END ∷ replicate 71 0) [] c.areas).state
unfolding kernel end_call
kernel-end h c = refl

-- the steps of a story, as long as they can be taken
module _ (h : Story) (c : Call) (whole : Whole c.areas.tables) (closed : (kernel h).hand ≡ Nothing) where
  abbrev tables : BothTables
  tables = c.areas.tables

  onward_closed : (k : ℕ) → (onward tables k (kernel h)).hand ≡ Nothing
  unfolding onward
  onward_closed zero = closed
  onward_closed (suc k) = ap (λ s. s.hand) (onward-last tables k (kernel h)) ∙ ended_hand _

  pairs_are : (k : ℕ) → ((i : ℕ) → i < k → lowest (step_tests (onward tables i (kernel h)) tables) ≡ 0) → kernel (steps h c k) ≡ onward tables k (kernel h)
  unfolding steps onward
  pairs_are zero each = refl
  pairs_are (suc k) each =
      let s = onward tables k (kernel h) in
      let e : kernel (steps h c k) ≡ s = pairs_are k (λ i l. each i (omega arith)) in
      let t = each k (omega arith) in
      let i : Inv s = subst Inv e (kept (steps h c k)) in
      let n : kernel (then (steps h c k) (next_call c)) ≡ stepped s tables =
      kernel-next (steps h c k) c
      ∙ ap (λ s. (answer_to s (NEXT ∷ replicate 71 0) [] c.areas).state) e
      ∙ ap (λ a. a.state) (next-does s c.areas whole (onward_closed k) t) in
      kernel-end (then (steps h c k) (next_call c)) c
      ∙ ap (λ s. (answer_to s (END ∷ replicate 71 0) [] c.areas).state) n
      ∙ end-does (stepped s tables) c.areas (stepped_open s tables i (step_ready s tables t))
      ∙ sym (onward-last tables k (kernel h))

  -- of a state that they come to: what NEXT answers there
  module _ (g : Story) (k : ℕ) (e : kernel g ≡ onward tables k (kernel h)) where
    number_there : number g (next_call c) ≡ lowest (step_tests (onward tables k (kernel h)) tables)
    unfolding next_call
    number_there =
        ap (λ s. number_of (answer_to s (NEXT ∷ replicate 71 0) [] c.areas)) e ∙ next-number (onward tables k (kernel h)) c.areas whole (onward_closed k)

    reply_there : lowest (step_tests (onward tables k (kernel h)) tables) ≡ 0 → reply g (next_call c) ≡ reply_of (next_says (onward tables k (kernel h)) tables)
    unfolding next_call
    reply_there t =
        ap (λ s. (answer_to s (NEXT ∷ replicate 71 0) [] c.areas).reply) e
        ∙ ap (λ a. a.reply) (next-does (onward tables k (kernel h)) c.areas whole (onward_closed k) t)

-- ## DRAIN
byte_small : (r : List ℕ) (k : ℕ) → are_bytes r ≡ true → get_or r k 0 < 256
unfolding are_bytes
byte_small r k e = go (dec_lt k (length r))
  where
    go : Dec (k < length r) → get_or r k 0 < 256
    go (yes l) = ltb-true (get_or r k 0) 256 (every-at (λ j. ltb (get_or r j 0) 256) 0 (length r) k e (omega arith) l)
    go (no n) = let z : get_or r k 0 ≡ 0 = get_or-eq_default r 0 (omega arith) in omega arith

unsound : (s : State) (tables : BothTables) → eqb (to_run s) 0 ≡ false → (lowest (step_tests s tables) ≡ 0 → ⊥) → lowest (step_tests s tables) ≡ TABLE
unfolding step_tests lowest
unsound s tables e ne = rw e (go (not (all_read (edition_of (slot_to_run s)) (s.flags (to_run s)) (next_rows s tables))) (rw e at ne))
  where
    go : (t : Bool) → (cond t TABLE 0 ≡ 0 → ⊥) → cond t TABLE 0 ≡ TABLE
    go true f = refl
    go false f = absurd (f refl)

-- what a DRAIN answers that was done
record Answers (s : State) (budget : ℕ) (z : Areas) (x : Drained) (a : Answer) : Type 0 where
  state : a.state ≡ x.state
  value₁ : get_or a.reply 4 0 ≡ x.steps
  value₂ : get_or a.reply 5 0 ≡ cond (eqb (to_run a.state) 0) 1 (cond (ltb x.steps budget) 2 0)
  log : a.areas.log ≡ x.log

answers_of : (s : State) (budget : ℕ) (z : Areas) (x : Drained) (a : Answer) → a ≡ drain_done budget x z → Answers s budget z x a
unfolding drain_done drain_end reply_of bytes
answers_of s budget z x a e = record { state = rw e refl; value₁ = rw e refl; value₂ = rw e refl; log = rw e refl }

module _ (h : Story) (c : Call) (did : Did DRAIN h c) where
  abbrev pub s : State
  s = kernel h

  abbrev pub budget : ℕ
  budget = argument c 1

  abbrev pub outcome : Drained
  outcome = drain_from budget 0 s c.areas.tables c.areas.log

  made : Made (answer_in h c) (drain_tests (spoilt 1 c.command) s c.areas.tables c.areas.log) (drain_done budget outcome c.areas)
  made = drain_made s c.command c.chart c.areas did.1 did.0

  none : NoneHolds (drain_tests (spoilt 1 c.command) s c.areas.tables c.areas.log)
  unfolding drain_tests
  none = none_holds (drain_tests (spoilt 1 c.command) s c.areas.tables c.areas.log) refl made.none

  pub drain_whole : Whole c.areas.tables
  unfolding drain_tests
  drain_whole = record { plain = eqb-true _ table_bytes (not-false _ none.1.0); guarded = eqb-true _ guarded_bytes (not-false _ none.1.1.0) }

  pub drain_closed : s.hand ≡ Nothing
  unfolding drain_tests
  drain_closed = closed_hand s.hand none.1.1.1.1.0

  log_whole : length c.areas.log ≡ log_bytes
  unfolding drain_tests
  log_whole = eqb-true _ log_bytes (not-false _ none.1.1.1.0)

  x : Answers s budget c.areas outcome (answer_in h c)
  x = answers_of s budget c.areas outcome (answer_in h c) made.is

  pub came : (m : ℕ) × Comes c.areas.tables budget 0 s c.areas.log outcome m
  came = drain_comes c.areas.tables budget 0 s c.areas.log (omega (arith, log_whole, byte_small c.command 1 c.bytes))

  pub drain-state : kernel (then h c) ≡ outcome.state
  unfolding kernel
  drain-state = x.state

  pub drain_log : length (answer_in h c).areas.log ≡ length c.areas.log
  drain_log = ap length x.log ∙ came.1.size

  drains : (m : ℕ) → Comes c.areas.tables budget 0 s c.areas.log outcome m → Drains h c m
  unfolding kernel
  drains m w =
      let here = pairs_are h c drain_whole drain_closed in
      let there : (i : ℕ) → i ≤ m → kernel (steps h c i) ≡ onward c.areas.tables i s = λ i l. here i (λ j k. w.each j (omega arith)) in
      let after : (answer_in h c).state ≡ onward c.areas.tables m s = x.state ∙ w.state in
      let v = x.value₂ in
      let q = idle_is (answer_in h c).state.boxes in
      record {
        fall = rw x.state (omega (arith, drain_falls budget 0 s c.areas.tables c.areas.log, w.steps));
        state = after ∙ sym (there m (omega arith));
        done = λ i l. number_there h c drain_whole drain_closed (steps h c i) i (there i (omega arith)) ∙ w.each i l;
        lines = λ i l.
            let z : reply_bytes * (0 + i) ≡ reply_bytes * i = omega arith in
            rw (x.log, ← z) (w.lines i l) ∙ sym (reply_there h c drain_whole drain_closed (steps h c i) i (there i (omega arith)) (w.each i l));
        rest = let z : reply_bytes * (0 + m) ≡ reply_bytes * m = omega arith in rw (x.log, ← z) w.after;
        within = w.most;
        ends = v ∙ rw (q, w.steps, zero-add m) refl;
        stopped = λ some below.
            number_there h c drain_whole drain_closed (then h c) m after
            ∙ unsound (onward c.areas.tables m s) c.areas.tables (rw after at (q ∙ ne_eqb (queued (answer_in h c).state.boxes) 0 (λ e. omega arith))) (w.stuck below);
      }

pub drained : Demands.Drained
drained h c did =
    let w = came h c did in
    let e : value₁ h c ≡ w.0 = (x h c did).value₁ ∙ omega (arith, w.1.steps) in
    subst (Drains h c) (sym e) (drains h c did w.0 w.1)
