-- Document 01, "Commands": steps. NEXT, END, DRAIN.
use Rattle.std.specs.Prelude.{Bool, false, cond, not, ◌&&◌, List, [], ◌∷◌, ℕ, zero, suc, ◌+◌, ◌*◌, ◌-◌, eqb, ltb, length, set}
use Rattle.chart.specs.Flat.{all_read, rows_at, taken}
use Rattle.chart.specs.Step
use Rattle.mail.specs.Box.{front, highest, one, took_front}
use Rattle.mail.specs.Entry.{hand_of}
use Rattle.mail.specs.declared.Hand.{Hand}
use Rattle.mail.specs.declared.Hand.TheVariants.{Nothing, Block, Timer}
use Rattle.pool.specs.Row.{generation_at}
use Rattle.machine.specs.Charts.{guarded_bad, slot_bad, slot_table, tables_bad}
use Rattle.machine.specs.Events.{let_go, is_last}
use Rattle.machine.specs.Numbers.{edition_of, reply_bytes, log_bytes}
use Rattle.machine.specs.State.{State, signal_in, rest_of, slot_of, is_open, with_boxes, with_rests, with_hand}
use Rattle.machine.specs.Reply.{FORM, AREA, BUSY, NOSTEP, IDLE, TABLE, Said, done, ran, reply_of, BothTables, Areas, Answer, answer, lowest, unless, with_log, over}

-- 12 NEXT: the front event of the highest object with mail leaves the mailbox, is in hand, and the rows for (rest, signal) are read with
-- the object's flags: the next state that they give is the new rest at once. The object, its slot, its front event, that event's signal
-- and handle, the rows, and what they give:
abbrev pub to_run : State → ℕ
to_run s = highest s.boxes

abbrev pub slot_to_run : State → ℕ
slot_to_run s = slot_of s (to_run s)

unfoldable pub coming : State → Hand
coming s = hand_of (front s.boxes (to_run s - 1))

unfoldable pub signal_of : State → Hand → ℕ
signal_of s Nothing = 0
signal_of s (Block b) = signal_in s b
signal_of s (Timer t g) = g

unfoldable pub first_byte : Hand → ℕ
first_byte Nothing = 0
first_byte (Block b) = b
first_byte (Timer t g) = 128 + t

unfoldable pub generation_in : State → Hand → ℕ
generation_in s Nothing = 0
generation_in s (Block b) = generation_at s.cells b
generation_in s (Timer t g) = 0

unfoldable pub next_rows : State → BothTables → List (List ℕ)
next_rows s tables = rows_at (edition_of (slot_to_run s)) (slot_table tables (slot_to_run s)) (rest_of s (to_run s)) (signal_of s (coming s))

unfoldable pub next_answer : State → BothTables → Step.Answer
next_answer s tables = taken (s.flags (to_run s)) (rest_of s (to_run s)) (next_rows s tables)

-- nothing queued, a row that is read and is unsound
unfoldable pub step_tests : State → BothTables → List (ℕ × Bool)
step_tests s tables = (IDLE, eqb (to_run s) 0) ∷ (TABLE, not (all_read (edition_of (slot_to_run s)) (s.flags (to_run s)) (next_rows s tables))) ∷ []

unfoldable pub next_tests : Bool → State → BothTables → List (ℕ × Bool)
next_tests spoilt s tables =
    (FORM, spoilt)
    ∷ (AREA, tables_bad tables)
    ∷ (AREA, not (eqb (to_run s) 0) && slot_bad (slot_to_run s) tables)
    ∷ (BUSY, is_open s.hand)
    ∷ step_tests s tables

unfoldable pub stepped : State → BothTables → State
stepped s tables =
    with_boxes (took_front s.boxes (to_run s - 1))
    (with_rests (set s.objects.rests (to_run s - 1) (next_answer s tables).next)
    (with_hand (coming s) s))

unfoldable pub next_says : State → BothTables → Said
next_says s tables = ran (to_run s) (signal_of s (coming s)) (first_byte (coming s)) (generation_in s (coming s)) (next_answer s tables)

unfoldable pub next : Bool → State → Areas → Answer
next spoilt s z = unless (lowest (next_tests spoilt s z.tables)) s z (answer (stepped s z.tables) (next_says s z.tables) z)

-- 13 END: the event in hand is let go; 1 if freed.
unfoldable pub let_go_hand : Hand → State → State
let_go_hand Nothing s = s
let_go_hand (Block b) s = let_go s b
let_go_hand (Timer t g) s = s

unfoldable pub frees : Hand → State → Bool
frees Nothing s = false
frees (Block b) s = is_last s b
frees (Timer t g) s = false

unfoldable pub ended : State → State
ended s = with_hand Nothing (let_go_hand s.hand s)

unfoldable pub end_tests : Bool → State → List (ℕ × Bool)
end_tests spoilt s = (FORM, spoilt) ∷ (NOSTEP, not (is_open s.hand)) ∷ []

unfoldable pub end : Bool → State → Areas → Answer
end spoilt s z = unless (lowest (end_tests spoilt s)) s z (answer (ended s) (done (one (frees s.hand s)) 0) z)

-- 18 DRAIN budget 0-255: NEXT and END until the budget is spent, nothing is queued, or a row is unsound (that event stays at the front).
-- The log: one NEXT answer per step, in order, the rest untouched.
pub record Drained : Type 0 where
  pub steps : ℕ
  pub state : State
  pub log : List ℕ

unfoldable pub logged : State → BothTables → ℕ → List ℕ → List ℕ
logged s tables n log = over log (reply_bytes * n) (reply_of (next_says s tables))

-- at most k steps more, after n
unfoldable pub drain_from : ℕ → ℕ → State → BothTables → List ℕ → Drained
drain_from zero n s tables log = record { steps = n; state = s; log = log }
drain_from (suc k) n s tables log =
    let rest : Drained = drain_from k (n + 1) (ended (stepped s tables)) tables (logged s tables n log) in
    cond (eqb (lowest (step_tests s tables)) 0) rest (record { steps = n; state = s; log = log })

-- 1 if nothing is queued, else 2 if stopped below budget, else 0
unfoldable pub drain_end : ℕ → Drained → ℕ
drain_end budget x = cond (eqb (to_run x.state) 0) 1 (cond (ltb x.steps budget) 2 0)

unfoldable pub drain_tests : Bool → State → BothTables → List ℕ → List (ℕ × Bool)
drain_tests spoilt s tables log =
    (FORM, spoilt)
    ∷ (AREA, tables_bad tables)
    ∷ (AREA, guarded_bad tables)
    ∷ (AREA, not (eqb (length log) log_bytes))
    ∷ (BUSY, is_open s.hand)
    ∷ []

unfoldable pub drain_done : ℕ → Drained → Areas → Answer
drain_done budget x z = answer x.state (done x.steps (drain_end budget x)) (with_log x.log z)

unfoldable pub drain : Bool → ℕ → State → Areas → Answer
drain spoilt budget s z =
    unless (lowest (drain_tests spoilt s z.tables z.log)) s z (drain_done budget (drain_from budget 0 s z.tables z.log) z)
