-- What is proved of charts and their tables. A chart d of edition e is accepted if `class_of e d ≡ 0`, and s is a state of it if
-- `among (states d) s ≡ true`.
use mathlib.Core.Bool.{true}
use mathlib.Core.List.{List, ◌++◌}
use mathlib.Core.Path.{◌≡◌}
use Prim.Native.Nat.{ℕ, ◌+◌, ◌≤◌}
use native.Mathlib.Omega.{arith}
use borrow.Author.Tests.{eq-eqb}
use lib.Dec.{ltb}
use lib.ListN.{length}
use Rattle.chart.specs.Chart.{ParentsStart, class_of, among, initial, is_signal, leaf, outward, parent, parent_ok, path, states}
use Rattle.chart.specs.Flags.{Flags, all_down}
use Rattle.chart.specs.Flat.{Agrees, all_read, flat_step, flattened, place, row_at, row_of, rows_at, slot_bytes, sound, start_sound}
use Rattle.chart.specs.Held.{answer_at, is_sound, reading}
use Rattle.chart.specs.Numbers.{Edition, Plain, each, levels, most_actions, slot_size}
use Rattle.chart.specs.Step.{listed, moved, settle, start, step}
use Rattle.chart.proofs.Accepted.{Accepted, accepted, is_state, path_longer, settled_ends, start_good, state_of_lem, state-up, step_good}
use Rattle.chart.proofs.Agree.{agrees, slot-reading, slot_reads}
use Rattle.chart.proofs.Leaf
use Rattle.chart.proofs.OneRow.{flag_at_lem, good_sound}
use Rattle.chart.proofs.Rows.{slot-length, slot-start}
use Rattle.chart.proofs.Steps
use Rattle.chart.proofs.Steps.{settle_is, settle_longer}
use Rattle.chart.proofs.Unflagged
-- The cases of document 01 marked *, as document 02's request 2 has them, and an accepted chart with a step of exactly 18 actions.
pub use Rattle.chart.specs.Shift.{shift_stated}
pub use Rattle.chart.specs.Deep.{deep_reaches}
-- A guarded chart, its steps under several flags, and its rows.
pub use Rattle.chart.specs.Alarm.{alarm_placed, alarm_stated}
-- What a sound row is, and that it is the row of its answer; of a plain table one row is read, which must be sound and gives its answer.
pub use Rattle.chart.proofs.OneRow.{Sound, sound-is, row_of_answer}
pub use Rattle.chart.proofs.Unflagged.{plain_fits, plain_taken}
-- What the code finds in any table is what the definitions say of its rows; a row that it takes is sound and lies within those that it reads.
pub use Rattle.chart.proofs.Found.{reading-gives, reading-row, reading-sound}
-- Where each row that is read may be read, the answer of any table leads to a state of its edition and lists at most 18 actions.
pub use Rattle.chart.proofs.Within.{Within, taken-within}
-- The words that hold the flags: all down, one of them set or cleared, and all those of an object cleared.
pub use Rattle.chart.proofs.Words.{words_at, words_cleared, words_down, words_kept, words_others, words_put}

module _ (e : Edition) (d : List ℕ) (good : class_of e d ≡ 0) where
  acc : Accepted e d
  acc = accepted e d good

  -- Flat and nested give the same outcomes, actions and rests, at the start and over any list of signals and changes of flags.
  pub agreement : Agrees e d (slot_bytes e d)
  agreement = agrees d acc

  -- A start lists at most 18 actions.
  pub start_actions : length (start d).acts ≤ most_actions
  start_actions = (start_good d acc).few

  -- It leads to a state of the chart.
  pub start_leads : among (states d) (start d).next ≡ true
  start_leads = is_state d (start d).next (start_good d acc).rests

  -- Its row stands first in the slot.
  pub start-row : row_at (slot_bytes e d) 0 ≡ row_of 0 (start d)
  start-row = slot-start e d

  -- That row is sound.
  pub start-row-sound : start_sound e (row_at (slot_bytes e d) 0) ≡ true
  unfolding start_sound
  start-row-sound = rw (start-row, good_sound acc 0 (start d) (start_good d acc) (omega arith)) (eq-eqb _ 0 (flag_at_lem 0 (start d)))

  module _ (s : ℕ) (h : among (states d) s ≡ true) where
    -- A step from a state of the chart lists at most 18 actions, whichever flags are up.
    pub step_actions : (is_up : Flags) (g : ℕ) → length (step d is_up s g).acts ≤ most_actions
    step_actions is_up g = (step_good d acc is_up s g (state_of_lem d s h)).few

    -- It leads to a state of the chart.
    pub step_leads : (is_up : Flags) (g : ℕ) → among (states d) (step d is_up s g).next ≡ true
    step_leads is_up g = is_state d (step d is_up s g).next (step_good d acc is_up s g (state_of_lem d s h)).rests

    -- Reading the slot's rows gives the step.
    pub step-read : (is_up : Flags) (g : ℕ) → is_signal g ≡ true → flat_step e (slot_bytes e d) is_up s g ≡ step d is_up s g
    step-read is_up g t = (slot_reads d acc is_up s g (state_of_lem d s h) t).gives

    -- Each row that is read is sound, or, in a guarded table, all 0.
    pub step-rows-sound : (is_up : Flags) (g : ℕ) → is_signal g ≡ true → all_read e is_up (rows_at e (slot_bytes e d) s g) ≡ true
    step-rows-sound is_up g t = (slot_reads d acc is_up s g (state_of_lem d s h) t).fits

    -- Both for what the code tells of the slot: it finds each row that it reads sound, and its answer is the step.
    pub step-reading : (is_up : Flags) (g : ℕ) → is_signal g ≡ true
        → let r = reading e is_up (slot_bytes e d) (place e s g 0) (each e) in (is_sound r ≡ true) × (answer_at (slot_bytes e d) s r ≡ step d is_up s g)
    step-reading is_up g t = slot-reading d acc is_up s g (state_of_lem d s h) t

    -- The bound of six levels cuts off nothing: the way outward ends at the top, and with any larger bound it is the same.
    pub outward_whole : (k : ℕ) → path (k + levels) d s ≡ outward d s
    outward_whole k = path_longer d k levels s (state-up d acc s (state_of_lem d s h))

    -- The bound of six initial transitions cuts off nothing: the state reached has no initial target,
    pub settle_ends : (l : List ℕ) → initial d (settle levels d s l).next ≡ 0
    settle_ends l = rw (settle_is d levels s l) (settled_ends d acc s (state_of_lem d s h))

    -- and with any larger bound it is the same.
    pub settle_whole : (k : ℕ) (l : List ℕ) → settle (k + levels) d s l ≡ settle levels d s l
    settle_whole k l = settle_longer d k levels s l (settled_ends d acc s (state_of_lem d s h))

  -- A state that is any state's parent has an initial target.
  pub parents_start : ParentsStart d
  parents_start = Leaf.parents_start e d good

  -- A start leads to a leaf,
  pub start-leaf : leaf d (start d).next ≡ true
  start-leaf = Leaf.start-leaf e d good

  -- and so does a step from a leaf.
  pub step-leaf : (is_up : Flags) (s g : ℕ) → leaf d s ≡ true → leaf d (step d is_up s g).next ≡ true
  step-leaf is_up s g h = Leaf.step-leaf e d good is_up s g h

  -- An accepted chart and a slot of the right length: the flattener answers 0 and fills the slot.
  pub flattens : (t : List ℕ) → length t ≡ slot_size e → flattened e d t ≡ (0, slot_bytes e d)
  unfolding flattened
  flattens t q = rw (eq-eqb (class_of e d) 0 good, eq-eqb (length t) (slot_size e) q)

-- A transition's action comes before every exit and everything else, and the others are listed as if it had none.
pub action_first : (d : List ℕ) (x s t a : ℕ) → (moved d x s t a).acts ≡ listed a ++ (moved d x s t 0).acts
action_first d x s t a = Steps.action_first d x s t a

-- A slot's bytes are as many as a slot has, whatever the chart.
pub slot_size_lem : (e : Edition) (d : List ℕ) → length (slot_bytes e d) ≡ slot_size e
slot_size_lem e d = slot-length e d

-- A leaf is a state of the chart.
pub leaf-state : (d : List ℕ) (s : ℕ) → leaf d s ≡ true → among (states d) s ≡ true
leaf-state d s h = Leaf.leaf-state d s h

-- The check asks no more: where each state that is any state's parent has an initial target, a parent has only to be lower.
pub asks_no_more : (d : List ℕ) → ParentsStart d → (s : ℕ) → among (states d) s ≡ true → parent_ok d s (parent d s) ≡ ltb (parent d s) s
asks_no_more d starts s h = Leaf.asks_no_more d starts s (state_of_lem d s h)

-- Edition one is the case with no flags.
module _ (d : List ℕ) (good : class_of Plain d ≡ 0) where
  -- Flags change nothing in a step.
  pub flags_nothing : (is_up : Flags) (s g : ℕ) → step d is_up s g ≡ step d all_down s g
  flags_nothing = Unflagged.flags_nothing d (Unflagged.plain_no_flags d (acc Plain d good))

  module _ (s : ℕ) (h : among (states d) s ≡ true) (g : ℕ) (t : is_signal g ≡ true) where
    -- A step's row stands at its place in the slot.
    pub step_row : (is_up : Flags) → row_at (slot_bytes Plain d) (place Plain s g 0) ≡ row_of 0 (step d is_up s g)
    step_row is_up = Unflagged.slot_row d (acc Plain d good) is_up s g (state_of_lem d s h) t

    -- That row is sound.
    pub step-row-sound : sound Plain (row_at (slot_bytes Plain d) (place Plain s g 0)) ≡ true
    step-row-sound = rw (step_row all_down) (good_sound (acc Plain d good) 0 (step d all_down s g) (step_good d (acc Plain d good) all_down s g (state_of_lem d s h)) (omega arith))
