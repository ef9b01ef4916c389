-- For the proofs alone, and nothing to believe: how the code holds things, and names for parts of the definitions.
use Rattle.std.specs.Prelude.{Bool, true, false, cond, not, ◌&&◌, List, [], ◌∷◌, ◌++◌, ℕ, zero, suc, ◌+◌, ◌*◌, ◌-◌, ◌/◌, ◌%◌, eqb, leb, get_or, replicate, set}
use Rattle.ground.specs.Range.{tab, first_from}
use Rattle.chart.specs.Chart.{records, record_at, byte, parent, initial, initial_action, key, among, is_signal, form_ok, state_ok, row_ok, row_for, has_row, flag_of, outward, has}
use Rattle.chart.specs.Flags.{Flags, is_open}
use Rattle.chart.specs.Flat.{row_of, row_at, flag_at, answer_of, readable, zeros}
use Rattle.chart.specs.Numbers.{Edition, Plain, most_states, levels, first_signal, signal_count, row_count, row_size, most_actions}
use Rattle.chart.specs.Step.{Answer, ignored, answer_by, listed, up_to, enter, first_of}
use Rattle.chart.specs.declared.Reading.{Reading}
use Rattle.chart.specs.declared.Reading.TheVariants.{Taken, Ignored, Unsound}
use Rattle.chart.specs.declared.read.RecordKind.{RecordKind}
use Rattle.chart.specs.declared.read.RecordKind.TheVariants.{State, Top}
use Rattle.chart.specs.declared.read.RecordKind.TheVariants.{Row as RowRecord}
use Rattle.chart.specs.declared.step.Acts.{Acts}
use Rattle.chart.specs.declared.step.Out.{Out}
use Rattle.chart.specs.declared.step.Outcome.{Outcome}
use Rattle.chart.specs.declared.step.Outcome.TheVariants.{Ignored as IgnoredStep, Internal, Transition}
use Rattle.chart.specs.declared.table.Row.{Row}

-- ## The check
abbrev pub not_state : List ℕ → ℕ → Bool
not_state d i = not (eqb (byte d i 0) 1)

abbrev pub kind_at : ℕ → ℕ → ℕ
kind_at n i = cond (eqb i 0) 3 (cond (leb i n) 1 2)

-- the kind that the code has of a record, as its number
abbrev pub kind_number : RecordKind → ℕ
kind_number State = 1
kind_number RowRecord = 2
kind_number Top = 3

abbrev pub form_at : Edition → ℕ → List ℕ → ℕ → Bool
form_at e n d i = form_ok e (kind_at n i) (record_at d i)

abbrev pub state_at : ℕ → List ℕ → ℕ → Bool
state_at n d s = state_ok n d s (record_at d s)

abbrev pub within : ℕ → List ℕ → ℕ → ℕ → Bool
within n d s t = among n t && has s (outward d (parent d t))

abbrev pub target_ok : ℕ → ℕ → ℕ → Bool
target_ok n k t = cond (eqb k 0) (eqb t 0) (eqb k 1 && among n t)

-- the key of the row before record i; none, 0, before the first row
abbrev pub key_before : ℕ → List ℕ → ℕ → ℕ
key_before n d i = cond (eqb i (n + 1)) 0 (key (record_at d (i - 1)))

abbrev pub row_good : Edition → ℕ → List ℕ → ℕ → Bool
row_good e n d i = row_ok e n (key_before n d i) (record_at d i)

-- what is reached from s by going outward k times
unfoldable pub up : ℕ → List ℕ → ℕ → ℕ
up zero d s = s
up (suc k) d s = up k d (parent d s)

-- ## A step
abbrev pub open_row : List ℕ → Flags → ℕ → ℕ → Bool
open_row d is_up g s = has_row d g s && is_open is_up (flag_of d g s)

abbrev pub common : List ℕ → ℕ → ℕ → ℕ
common d s t = first_of (λ x. has x (outward d t)) (outward d s)

-- the state whose row is row i of those outward along a path; 0: none
unfoldable pub nth_out : List ℕ → ℕ → ℕ → List ℕ → ℕ
nth_out d g i [] = 0
nth_out d g i (s ∷ ss) = cond (has_row d g s) (cond (eqb i 0) s (cond (eqb (flag_of d g s) 0) 0 (nth_out d g (i - 1) ss))) (nth_out d g i ss)

-- the row of that state; no state, 0: b
abbrev pub row_or : List ℕ → List ℕ → ℕ → ℕ → ℕ → List ℕ
row_or b d x g s = cond (eqb s 0) b (row_of (flag_of d g s) (answer_by d x g s))

-- the two parts of `settle`: where it ends, and what it lists
unfoldable pub settled : ℕ → List ℕ → ℕ → ℕ
settled zero d s = s
settled (suc k) d s = cond (eqb (initial d s) 0) s (settled k d (initial d s))

unfoldable pub settling : ℕ → List ℕ → ℕ → List ℕ
settling zero d s = []
settling (suc k) d s =
    cond (eqb (initial d s) 0) []
    (listed (initial_action d s) ++ (enter d (up_to s (outward d (initial d s))) ++ settling k d (initial d s)))

-- The code's list of actions: the first 18, with their number, the rest 0. One more, where there is room.
abbrev pub no_acts : Acts
no_acts = record { count = 0; list = replicate most_actions 0 }

unfoldable pub pushed : Acts → ℕ → Acts
pushed r x = cond (leb most_actions r.count) r (record { count = r.count + 1; list = set r.list r.count x })

unfoldable pub push_all : Acts → List ℕ → Acts
push_all r [] = r
push_all r (x ∷ l) = push_all (pushed r x) l

-- an outcome as the code holds it, and as the number that it is
abbrev pub outcome_of : ℕ → Outcome
outcome_of zero = IgnoredStep
outcome_of (suc zero) = Internal
outcome_of (suc (suc n)) = Transition

abbrev pub outcome_number : Outcome → ℕ
outcome_number IgnoredStep = 0
outcome_number Internal = 1
outcome_number Transition = 2

unfoldable pub out_of : Answer → Out
out_of r = record { next = r.next; outcome = outcome_of r.outcome; acts = push_all no_acts r.acts }

-- the end of a transition at t, behind what was listed before
unfoldable pub settled_out : List ℕ → ℕ → Acts → Out
settled_out d t r = record { next = settled levels d t; outcome = Transition; acts = push_all r (settling levels d t) }

unfoldable pub row_bytes : Row → List ℕ
row_bytes r = r.out.next ∷ outcome_number r.out.outcome ∷ r.out.acts.count ∷ (r.out.acts.list ++ (r.flag ∷ 0 ∷ 0 ∷ []))

-- ## Reading the table
-- what reading k rows tells, from a place of a table on
unfoldable pub reading : Edition → Flags → List ℕ → ℕ → ℕ → Reading
reading e is_up t at zero = Ignored
reading e is_up t at (suc k) =
    cond (readable e (row_at t at))
    (cond (zeros (row_at t at)) Ignored
    (cond (is_open is_up (flag_at (row_at t at))) (Taken at) (reading e is_up t (at + row_size) k))) Unsound

-- what it stands for, at rest x
unfoldable pub answer_at : List ℕ → ℕ → Reading → Answer
answer_at t x (Taken at) = answer_of (row_at t at)
answer_at t x Ignored = ignored x
answer_at t x Unsound = ignored x

unfoldable pub is_sound : Reading → Bool
is_sound (Taken at) = true
is_sound Ignored = true
is_sound Unsound = false

-- ## The index of the rows: a place for each row of a plain table, as its states are the most
-- the number of the row for state s and signal g behind the start row
abbrev pub row_number : ℕ → ℕ → ℕ
row_number s g = signal_count * (s - 1) + (g - first_signal)

abbrev pub is_row : List ℕ → ℕ → ℕ → Bool
is_row d k i = eqb (byte d i 0) 2 && (eqb (byte d i 1) (k / signal_count + 1) && eqb (byte d i 2) (k % signal_count + first_signal))

-- as far as the records from i on tell
unfoldable pub index_from : List ℕ → ℕ → List ℕ
index_from d i = tab (λ k. first_from (is_row d k) i (records d - i)) (row_count Plain)

unfoldable pub row_index : List ℕ → List ℕ
row_index d = tab (λ k. row_for d (k / signal_count + 1) (k % signal_count + first_signal)) (row_count Plain)

-- record i, whose bytes are r, entered into an index
unfoldable pub noted : List ℕ → ℕ → List ℕ → List ℕ
noted r i l =
    cond (eqb (get_or r 0 0) 2 && (among (most_states Plain) (get_or r 1 0) && is_signal (get_or r 2 0)))
    (set l (row_number (get_or r 1 0) (get_or r 2 0)) i) l
