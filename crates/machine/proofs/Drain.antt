-- DRAIN: its steps are the fall in queued entries, and it does what a run does that lets go of the blocks afterwards.
use mathlib.Core.Bool.{Bool, true, false}
use mathlib.Core.List.{List, [], ◌∷◌}
use mathlib.Core.Path.{◌≡◌, refl, sym, ap, ◌∙◌, subst}
use Prim.Native.Nat.{ℕ, zero, suc, ◌+◌, ◌-◌, ◌≤◌, ◌<◌}
use native.Mathlib.Decide.{dec_lt}
use native.Mathlib.Omega.{arith}
use borrow.Author.Tests.{eqb-true, ne_eqb}
use lib.Dec.{eqb}
use lib.ListN.{length, get_or, get_or-eq_default}
use lib.Seq.{set_out}
use Rattle.ground.specs.Bools.{cond_pick, no_yes}
use Rattle.ground.specs.Range.{tab}
use Rattle.ground.specs.Tab.{get_or-tab}
use Rattle.mail.specs.Box.{took_front, queued}
use Rattle.mail.specs.Laws.{queued_took}
use Rattle.mail.specs.declared.Hand.{Hand}
use Rattle.mail.specs.declared.Hand.TheVariants.{Nothing, Block, Timer}
use Rattle.pool.specs.Cell.{Cell, free, live, retired, absent, at_last, generation_of, fewer, fewer_by}
use Rattle.pool.specs.Laws.{gone_at, gone_length, gone_never, gone_once_more}
use Rattle.pool.specs.Row.{at, blocks, changed, generation_at, gone_all, gone_times, once_more}
use Rattle.machine.proofs.Counts.{fewer_none, back_not_live}
use Rattle.machine.proofs.KeepsSteps.{Ready, ready, step_ready, coming-event, coming_live, rows-within, step_keeps}
use Rattle.machine.specs.Inv.{Inv, is_live, IsEvent}
use Rattle.machine.specs.Reply.{BothTables, lowest}
use Rattle.machine.specs.Run.{Run, block_of, begun, after_run, seen, FitFor, onward, run_from}
use Rattle.machine.specs.State.{State, with_cells}
use Rattle.machine.specs.Steps.{to_run, coming, signal_of, first_byte, generation_in, next_rows, next_answer, step_tests, stepped, next_says, let_go_hand, frees, ended, Drained, logged, drain_from}

-- Each step takes one entry.
let_go_boxes : (h : Hand) (s : State) → (let_go_hand h s).boxes ≡ s.boxes
unfolding let_go_hand
let_go_boxes Nothing s = refl
let_go_boxes (Block b) s = refl
let_go_boxes (Timer t g) s = refl

pub step-boxes : (s : State) (tables : BothTables) → (ended (stepped s tables)).boxes ≡ took_front s.boxes (to_run s - 1)
unfolding ended stepped
step-boxes s tables = let_go_boxes _ _

pub drain_falls : (k n : ℕ) (s : State) (tables : BothTables) (log : List ℕ) →
    queued s.boxes + n ≡ queued (drain_from k n s tables log).state.boxes + (drain_from k n s tables log).steps
unfolding drain_from
drain_falls zero n s tables log = refl
drain_falls (suc k) n s tables log =
    cond_pick (λ (x : Drained). queued s.boxes + n ≡ queued x.state.boxes + x.steps) (eqb (lowest (step_tests s tables)) 0) _ _
    (λ t.
    let r = step_ready s tables (eqb-true _ 0 t) in
    let b : queued (ended (stepped s tables)).boxes ≡ queued (took_front s.boxes (to_run s - 1)) = ap queued (step-boxes s tables) in
    omega (arith, queued_took s.boxes (to_run s - 1) r.mail, drain_falls k (n + 1) (ended (stepped s tables)) tables (logged s tables n log)))
    (λ t. refl)

fewer-generation : (c : Cell) → is_live (fewer c) ≡ true → generation_of (fewer c) ≡ generation_of c
unfolding fewer is_live generation_of
fewer-generation (free g) e = refl
fewer-generation (live g zero) e = refl
fewer-generation (live g (suc zero)) e = no_yes (sym (back_not_live g) ∙ e)
fewer-generation (live g (suc (suc n))) e = refl
fewer-generation (retired g) e = refl
fewer-generation absent e = refl

fewer_by_generation : (n : ℕ) (c : Cell) → is_live (fewer_by n c) ≡ true → generation_of (fewer_by n c) ≡ generation_of c
unfolding fewer_by
fewer_by_generation zero c e = refl
fewer_by_generation (suc n) c e = fewer-generation (fewer_by n c) e ∙ fewer_by_generation n c (fewer_none (fewer_by n c) e)

-- blocks that are still live have the generation that they had
gone_lives : (s : List Cell) (times : List ℕ) (b : ℕ) → is_live (at (gone_times s times) b) ≡ true → generation_of (at (gone_times s times) b) ≡ generation_of (at s b)
gone_lives s times b = go (dec_lt b (length s))
  where
    go : Dec (b < length s) → is_live (at (gone_times s times) b) ≡ true → generation_of (at (gone_times s times) b) ≡ generation_of (at s b)
    go (yes l) e = rw (gone_at s times b l) (fewer_by_generation (get_or times b 0) (at s b) (rw (gone_at s times b l) at e))
    go (no n) e =
        let there : at (gone_times s times) b ≡ absent = get_or-eq_default (gone_times s times) absent (omega (arith, gone_length s times)) in
        let here : at s b ≡ absent = get_or-eq_default s absent (omega arith) in
        rw (there, here) refl

-- letting go of what is in hand, where 255 is no block
pub let_go_is : (h : Hand) (s : State) → length s.cells ≤ 255 → let_go_hand h s ≡ with_cells (gone_all s.cells (block_of h ∷ [])) s
unfolding let_go_hand gone_all block_of
let_go_is Nothing s l = rw (set_out s.cells 255 (fewer (at s.cells 255)) l) refl
let_go_is (Block b) s l = refl
let_go_is (Timer t g) s l = rw (set_out s.cells 255 (fewer (at s.cells 255)) l) refl

pub frees-is : (h : Hand) (s : State) → length s.cells ≤ 255 → frees h s ≡ at_last (at s.cells (block_of h))
unfolding frees at_last block_of
frees-is Nothing s l = rw (get_or-eq_default s.cells absent l) refl
frees-is (Block b) s l = refl
frees-is (Timer t g) s l = rw (get_or-eq_default s.cells absent l) refl

-- An event that is let go once more, by the first byte of its handle: a timer's is no block, and nor is 255.
once_let_go : (h : Hand) (s : List Cell) (times : List ℕ) → IsEvent h → length s ≡ blocks →
    changed fewer (gone_times s times) (block_of h) ≡ gone_times s (once_more times (first_byte h))
unfolding IsEvent block_of first_byte
once_let_go Nothing s times e l = absurd e
once_let_go (Block b) s times e l = sym (gone_once_more s times b (omega arith))
once_let_go (Timer t g) s times e l =
    outside 255 (omega arith) ∙ sym (outside (128 + t) (omega arith)) ∙ sym (gone_once_more s times (128 + t) (omega arith))
  where
    outside : (b : ℕ) → blocks ≤ b → changed fewer (gone_times s times) b ≡ gone_times s times
    outside b m = set_out (gone_times s times) b (fewer (at (gone_times s times) b)) (omega (arith, gone_length s times))

-- The run of a state s: what a step of it reads, the step, and at most k steps.
abbrev pub gens_of : State → List ℕ
gens_of s = tab (generation_at s.cells) blocks

abbrev pub seen_of : State → Run → State
seen_of s x = seen (gens_of s) s.events.signals s.objects.seats s.flags x

abbrev pub onward_of : State → BothTables → Run → Run
onward_of s tables x = onward (gens_of s) s.events.signals s.objects.seats s.flags tables x

abbrev pub run_of : State → BothTables → ℕ → Run → Run
run_of s tables k x = run_from (gens_of s) s.events.signals s.objects.seats s.flags tables k x

-- A step in the state that a run has come to.
module _ (s : State) (tables : BothTables) (x : Run) where
  same_signal : (h : Hand) → signal_of (after_run s x) h ≡ signal_of (seen_of s x) h
  unfolding signal_of
  same_signal Nothing = refl
  same_signal (Block b) = refl
  same_signal (Timer t g) = refl

  same_rows : next_rows (after_run s x) tables ≡ next_rows (seen_of s x) tables
  unfolding next_rows coming
  same_rows = rw (same_signal _) refl

  same_answer : next_answer (after_run s x) tables ≡ next_answer (seen_of s x) tables
  unfolding next_answer
  same_answer = rw same_rows refl

  pub same_tests : lowest (step_tests (after_run s x) tables) ≡ lowest (step_tests (seen_of s x) tables)
  unfolding step_tests
  same_tests = rw same_rows refl

  module _ (i : Inv (after_run s x)) (r : Ready (after_run s x)) where
    pub same_handle : (h : Hand) → coming (after_run s x) ≡ h → generation_in (after_run s x) h ≡ generation_in (seen_of s x) h
    unfolding generation_in generation_at generation_of IsEvent
    same_handle Nothing e = refl
    same_handle (Block b) e =
        let l : b < blocks = rw e at (coming-event (after_run s x) i r) in
        gone_lives s.cells x.times b (coming_live (after_run s x) b i r e)
        ∙ sym (get_or-tab (generation_at s.cells) blocks b 0 l)
        ∙ sym (ap generation_of (get_or-tab (λ k. free (get_or (gens_of s) k 0)) blocks b absent l))
    same_handle (Timer t g) e = refl

    same_says : next_says (after_run s x) tables ≡ next_says (seen_of s x) tables
    unfolding next_says coming
    same_says = rw (same_signal _, same_handle _ refl, same_answer) refl

    same_state : s.hand ≡ Nothing → ended (stepped (after_run s x) tables) ≡ after_run s (onward_of s tables x)
    unfolding ended stepped onward coming gone_all
    same_state e =
        rw (
          let_go_is (coming (after_run s x)) (stepped (after_run s x) tables) (omega (arith, i.store.cells-length)),
          once_let_go (coming (after_run s x)) s.cells x.times (coming-event (after_run s x) i r) (sym (gone_length s.cells x.times) ∙ i.store.cells-length),
          same_answer,
          e,
        )
        refl

    same_log : logged (after_run s x) tables x.steps x.log ≡ logged (seen_of s x) tables x.steps x.log
    unfolding logged
    same_log = rw same_says refl

-- What DRAIN does by a run: its steps, its log, and the state.
abbrev pub drained_by : State → Run → Drained
drained_by s x = record { steps = x.steps; state = after_run s x; log = x.log }

module _ (s : State) (tables : BothTables) (e : s.hand ≡ Nothing) where
  -- the state that a run has come to is kept from step to step
  pub run_keeps : (x : Run) → Inv (after_run s x) → lowest (step_tests (seen_of s x) tables) ≡ 0 → Inv (after_run s (onward_of s tables x))
  run_keeps x i t =
      let u = same_tests s tables x ∙ t in
      subst Inv (same_state s tables x i (step_ready (after_run s x) tables u) e) (step_keeps tables (after_run s x) i e u)

  drain-on : (k : ℕ) (x : Run) → Inv (after_run s x) → drain_from k x.steps (after_run s x) tables x.log ≡ drained_by s (run_of s tables k x)
  unfolding drain_from run_from onward
  drain-on zero x i = refl
  drain-on (suc k) x i = go (eqb (lowest (step_tests (after_run s x) tables)) 0) refl (λ j. drain-on k (onward_of s tables x) j)
    where
      go : (t : Bool) → eqb (lowest (step_tests (after_run s x) tables)) 0 ≡ t →
          (let y = onward_of s tables x in Inv (after_run s y) → drain_from k y.steps (after_run s y) tables y.log ≡ drained_by s (run_of s tables k y)) →
          drain_from (suc k) x.steps (after_run s x) tables x.log ≡ drained_by s (run_of s tables (suc k) x)
      go true t rest =
          let u : lowest (step_tests (after_run s x) tables) ≡ 0 = eqb-true _ 0 t in
          let r = step_ready (after_run s x) tables u in
          rw (t, rw (same_tests s tables x) at t, same_state s tables x i r e, same_log s tables x i r) (rest (run_keeps x i (sym (same_tests s tables x) ∙ u)))
      go false t rest = rw (t, rw (same_tests s tables x) at t) refl

  -- every state that it comes to is fit for a step
  fit : (x : Run) → Inv (after_run s x) → FitFor (seen_of s x)
  unfolding coming
  fit x i l =
      let r = ready (after_run s x) (ne_eqb (to_run (after_run s x)) 0 (λ z. omega arith)) in
      let w = rows-within (after_run s x) i r in
      let g = same_signal s tables x (coming (seen_of s x)) in
      record { event = coming-event (after_run s x) i r; signal = rw (← g) w.signal; rested = w.rest_low; seated = w.slot; end = rw (← g) w.end }

  pub run_fit : (k : ℕ) (x : Run) → Inv (after_run s x) → FitFor (seen_of s (run_of s tables k x))
  unfolding run_from
  run_fit zero x i = fit x i
  run_fit (suc k) x i =
      cond_pick (λ (y : Run). FitFor (seen_of s y)) (eqb (lowest (step_tests (seen_of s x) tables)) 0) _ _
      (λ t. run_fit k (onward_of s tables x) (run_keeps x i (eqb-true _ 0 t)))
      (λ t. fit x i)

-- A run has let go of nothing when it begins.
pub begun-is : (s : State) (log : List ℕ) → after_run s (begun s log) ≡ s
begun-is s log = rw (gone_never s.cells) refl

-- For a state that is kept, with no step open.
pub drain-run : (s : State) (tables : BothTables) (log : List ℕ) (budget : ℕ) → Inv s → s.hand ≡ Nothing →
    drain_from budget 0 s tables log ≡ drained_by s (run_of s tables budget (begun s log))
drain-run s tables log budget i e = rw (gone_never s.cells) at (drain-on s tables e budget (begun s log) (rw (gone_never s.cells) i))
