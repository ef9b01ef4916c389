-- NEXT, END and DRAIN: what it says that none of their tests holds, what a step is, and DRAIN as a run.
use mathlib.Core.Bool.{Bool, true, false, not, ◌&&◌}
use mathlib.Core.List.{List, [], ◌∷◌, ◌++◌}
use mathlib.Core.Path.{◌≡◌, refl, sym, ap}
use Prim.Native.Nat.{ℕ, ◌≤◌, ◌-◌}
use native.Mathlib.Omega.{arith}
use borrow.Author.Tests.{eq-eqb, eqb-true, eqb-false, not-false}
use lib.Dec.{eqb}
use lib.ListN.{length, set}
use Rattle.std.specs.Prelude.{Ok}
use Rattle.chart.specs.Flags.{in_words}
use Rattle.chart.specs.Step.{Answer}
use Rattle.drain.specs.Lent.{Generations, Looks, run_at}
use Rattle.drain.specs.declared.Coming.{Coming}
use Rattle.ground.specs.Range.{tab}
use Rattle.ground.specs.Tab.{get_or-tab}
use Rattle.machine.proofs.Drain.{begun-is, let_go_is, frees-is, drained_by, run_fit, drain-run}
use Rattle.machine.proofs.KeepsSteps.{closed_hand, ready, coming-event, rows-within}
use Rattle.machine.proofs.Run.{run_most}
use Rattle.machine.proofs.Tests.{NoneHolds, none_holds}
use Rattle.machine.specs.Charts.{slot_bad, tables_bad}
use Rattle.machine.specs.Inv.{Inv}
use Rattle.machine.specs.Numbers.{guarded_slot, table_bytes, guarded_bytes, log_bytes}
use Rattle.machine.specs.Reply.{FORM, AREA, BUSY, IDLE, TABLE, Areas, BothTables, answer, ran, lowest, reply_of}
use Rattle.machine.specs.Run.{Run, Fit, FitRun, begun, block_of, run_from}
use Rattle.machine.specs.State.{State, is_open, with_boxes, with_cells, with_hand, with_rests}
use Rattle.machine.specs.Steps.{to_run, slot_to_run, coming, next_answer, next_says, next_tests, step_tests, stepped, ended, frees, drain_from, drain_tests}
use Rattle.mail.specs.Box.{front, took_front}
use Rattle.mail.specs.Entry.{hand_of}
use Rattle.mail.specs.View.{boxes}
use Rattle.mail.specs.declared.Hand.TheVariants.{Nothing}
use Rattle.pool.specs.Cell.{fewer, at_last}
use Rattle.pool.specs.Row.{at, blocks, changed, generation_at, gone_all, never}
use Rattle.pool.specs.View.{cells, cells-length}
use Rattle.state.specs.View.{outcome, state_of, told}
use Rattle.state.specs.declared.Kernel.{Kernel}

pub generations_of : (k : Kernel) (gens : List ℕ) → gens ≡ tab (generation_at (cells k.pool)) blocks → Generations (state_of k) gens
unfolding state_of
generations_of k gens e b h = rw e (sym (get_or-tab (generation_at (cells k.pool)) blocks b 0 h))

-- where an earlier test holds, the last one does not count
last_test : (l : List (ℕ × Bool)) (m : ℕ) (t : Bool) → (lowest (l ++ ((m, false) ∷ [])) ≡ 0 → ⊥) → lowest (l ++ ((m, false) ∷ [])) ≡ lowest (l ++ ((m, t) ∷ []))
unfolding lowest
last_test [] m t ne = absurd (ne refl)
last_test ((n, true) ∷ l) m t ne = refl
last_test ((n, false) ∷ l) m t ne = last_test l m t ne

-- NEXT: its tests but that of the rows, and that of the rows once none of these holds.
module _ (spoilt : Bool) (s : State) (tables : BothTables) where
  abbrev pub before : List (ℕ × Bool)
  before =
      (FORM, spoilt)
      ∷ (AREA, tables_bad tables)
      ∷ (AREA, not (eqb (to_run s) 0) && slot_bad (slot_to_run s) tables)
      ∷ (BUSY, is_open s.hand)
      ∷ (IDLE, eqb (to_run s) 0)
      ∷ []

  pub before-rows : (lowest (before ++ ((TABLE, false) ∷ [])) ≡ 0 → ⊥) → lowest (before ++ ((TABLE, false) ∷ [])) ≡ lowest (next_tests spoilt s tables)
  unfolding next_tests step_tests
  before-rows ne = last_test before TABLE _ ne

  module _ (e : lowest (before ++ ((TABLE, false) ∷ [])) ≡ 0) where
    none : NoneHolds (before ++ ((TABLE, false) ∷ []))
    none = none_holds (before ++ ((TABLE, false) ∷ [])) refl e

    pub but_rows : lowest (next_tests spoilt s tables) ≡ lowest (step_tests s tables)
    unfolding next_tests lowest
    but_rows = rw (none.0, none.1.0, none.1.1.0, none.1.1.1.0) refl

    pub queued_some : to_run s ≡ 0 → ⊥
    queued_some = eqb-false _ _ none.1.1.1.1.0

    pub tables_long : length tables.plain ≡ table_bytes
    tables_long = eqb-true _ _ (not-false _ none.1.0)

    pub guarded_long : slot_to_run s ≡ guarded_slot → length tables.guarded ≡ guarded_bytes
    guarded_long z = eqb-true _ _ (not-false _ (rw (none.1.1.1.1.0, eq-eqb _ _ z) at none.1.1.0))

    pub fit_next : Inv s → Fit s
    fit_next i =
        let r = ready s none.1.1.1.1.0 in
        let w = rows-within s i r in
        record { event = coming-event s i r; signal = w.signal; rested = w.rest_low; seated = w.slot; end = w.end }

-- The step that NEXT takes: the mailboxes, the states of rest and what is in hand after it, and what it says.
pub step_is : (k k' : Kernel) (tables : BothTables) (p : ℕ) → p ≡ to_run (state_of k) → (l : Coming) → Looks (state_of k) (coming (state_of k)) l →
    (a : Answer) → a ≡ next_answer (state_of k) tables →
    state_of k' ≡ with_boxes (took_front (state_of k).boxes (p - 1)) (with_rests (set (state_of k).objects.rests (p - 1) a.next) (with_hand (hand_of (front (state_of k).boxes (p - 1))) (state_of k))) →
    (reply : List ℕ) → reply ≡ reply_of (ran p l.signal l.first l.generation a) → (z : Areas) →
    outcome k' (Ok reply) z ≡ answer (stepped (state_of k) tables) (next_says (state_of k) tables) z
unfolding told stepped next_says coming
step_is k k' tables p e l w a r is reply q z = rw (is, q, w.signal, w.first, w.generation, r, e) refl

-- END, by the block in hand.
module _ (k : Kernel) where
  few : length (state_of k).cells ≤ 255
  unfolding state_of
  few = omega (arith, cells-length k.pool)

  pub ended_is : ended (state_of k) ≡ with_hand Nothing (with_cells (changed fewer (cells k.pool) (block_of (hand_of k.hand))) (state_of k))
  unfolding ended gone_all state_of
  ended_is = rw (let_go_is (hand_of k.hand) (state_of k) few) refl

  pub freed_is : frees (hand_of k.hand) (state_of k) ≡ at_last (at (cells k.pool) (block_of (hand_of k.hand)))
  unfolding state_of
  freed_is = frees-is (hand_of k.hand) (state_of k) few

-- DRAIN: what it says that none of its tests holds.
module _ (spoilt : Bool) (s : State) (tables : BothTables) (log : List ℕ) where
  pub drain_allowed : lowest (drain_tests spoilt s tables log) ≡ 0 →
      (s.hand ≡ Nothing) × (length tables.plain ≡ table_bytes) × (length tables.guarded ≡ guarded_bytes) × (length log ≡ log_bytes)
  unfolding drain_tests
  drain_allowed e =
      let h = none_holds (drain_tests spoilt s tables log) refl e in (
        closed_hand s.hand h.1.1.1.1.0,
        eqb-true _ _ (not-false _ h.1.0),
        eqb-true _ _ (not-false _ h.1.1.0),
        eqb-true _ _ (not-false _ h.1.1.1.0),
      )

-- DRAIN, as a run over what is lent to it: each of its states is fit for a step, and what it comes to is what DRAIN does.
module _ (k : Kernel) (gens : List ℕ) (tables : BothTables) (log : List ℕ) (e : gens ≡ tab (generation_at (cells k.pool)) blocks)
    (h : hand_of k.hand ≡ Nothing) (i : Inv (state_of k)) where
  abbrev start : Run
  start = run_at (boxes k.mail) k.rests never log 0

  pub drain_fit : FitRun gens k.signals k.seats (in_words k.flags) tables start
  unfolding state_of
  drain_fit = rw e (λ n. run_fit (state_of k) tables h n (begun (state_of k) log) (rw (begun-is (state_of k) log) i))

  module _ (budget : ℕ) (x : Run) (r : x ≡ run_from gens k.signals k.seats (in_words k.flags) tables budget start) where
    pub drained_is : drain_from budget 0 (state_of k) tables log ≡ drained_by (state_of k) x
    unfolding state_of
    drained_is = rw (drain-run (state_of k) tables log budget i h, r, e) refl

    pub steps_most : x.steps ≤ budget
    steps_most = omega (arith, ap (λ (y : Run). y.steps) r, run_most gens k.signals k.seats (in_words k.flags) tables budget start)
