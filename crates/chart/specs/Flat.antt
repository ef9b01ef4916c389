-- Document 01, "Flat table.", and document 02, request 8: the bytes of a slot, what the flattener does, reading its rows, and the agreement of flat and nested.
use Rattle.std.specs.Prelude.{Bool, true, cond, ◌&&◌, ◌||◌, List, [], ◌∷◌, ◌++◌, ◌≡◌, ℕ, zero, suc, ◌+◌, ◌*◌, ◌-◌, ◌/◌, ◌%◌, leb, eqb, length, replicate, take, drop, get_or}
use Rattle.bits.specs.Members.{put}
use Rattle.ground.specs.Bytes.{blank, padded}
use Rattle.ground.specs.Range.{tab}
use Rattle.chart.specs.Chart.{states, class_of, among, is_signal, has_row, flag_of, outward}
use Rattle.chart.specs.Flags.{Flags, all_down, is_open}
use Rattle.chart.specs.Numbers.{Edition, Plain, Guarded, most_states, most_flag, first_signal, signal_count, row_size, each, row_count, slot_size, most_actions, flag_byte}
use Rattle.chart.specs.Step.{Answer, ignored, answer_by, step, start}

-- A row: next state, outcome, count, 18 actions of which the unused are 0, its flag (0 for none), 2 zeros.
unfoldable pub row_of : ℕ → Answer → List ℕ
row_of f r = r.next ∷ r.outcome ∷ length r.acts ∷ (padded most_actions r.acts ++ (f ∷ 0 ∷ 0 ∷ []))

-- The chart's rows for the signal g at rest x, along an outward path, up to and with the first without a flag.
unfoldable pub rows_out : List ℕ → ℕ → ℕ → List ℕ → List (List ℕ)
rows_out d x g [] = []
rows_out d x g (s ∷ ss) =
    cond (has_row d g s)
    (row_of (flag_of d g s) (answer_by d x g s) ∷ cond (eqb (flag_of d g s) 0) [] (rows_out d x g ss))
    (rows_out d x g ss)

-- What stands behind them: an ignored step, or zeros.
unfoldable pub behind : Edition → ℕ → List ℕ
behind Plain x = row_of 0 (ignored x)
behind Guarded x = replicate row_size 0

-- Row k behind the start row is, with m rows for each state and signal, row k % m for state k / (28 m) + 1 and signal k / m % 28 + 4; all 0
-- if the state is absent.
unfoldable pub row_no : Edition → List ℕ → ℕ → List ℕ
row_no e d k =
    let s = k / (signal_count * each e) + 1 in
    let g = k / each e % signal_count + first_signal in
    cond (leb s (states d)) (get_or (rows_out d s g (outward d s)) (k % each e) (behind e s)) (replicate row_size 0)

-- n rows from row k on.
unfoldable pub rows_from : Edition → List ℕ → ℕ → ℕ → List ℕ
rows_from e d k zero = []
rows_from e d k (suc n) = row_no e d k ++ rows_from e d (suc k) n

unfoldable pub slot_bytes : Edition → List ℕ → List ℕ
slot_bytes e d = row_of 0 (start d) ++ rows_from e d 0 (row_count e)

-- What the flattener answers, and what the table then holds.
unfoldable pub flattened : Edition → List ℕ → List ℕ → ℕ × List ℕ
flattened e d t = cond (eqb (class_of e d) 0) (cond (eqb (length t) (slot_size e)) (0, slot_bytes e d) (5, t)) (class_of e d, t)

-- Where row i for state s and signal g begins, the row at a place of a table, and the rows for s and g.
unfoldable pub place : Edition → ℕ → ℕ → ℕ → ℕ
place e s g i = row_size + row_size * (each e * (signal_count * (s - 1) + (g - first_signal)) + i)

abbrev pub row_at : List ℕ → ℕ → List ℕ
row_at t at = take row_size (drop at t)

abbrev pub rows_at : Edition → List ℕ → ℕ → ℕ → List (List ℕ)
rows_at e t s g = tab (λ i. row_at t (place e s g i)) (each e)

-- A row of 24 bytes is sound if next is 1-24 (1-8), outcome at most 2, count at most 18, the flag 0 (0-8), and unused bytes are 0.
abbrev pub flag_at : List ℕ → ℕ
flag_at r = get_or r flag_byte 0

unfoldable pub sound : Edition → List ℕ → Bool
sound e r =
    eqb (length r) row_size
    && (among (most_states e) (get_or r 0 0)
    && (leb (get_or r 1 0) 2
    && (leb (get_or r 2 0) most_actions
    && (blank r (3 + get_or r 2 0) flag_byte
    && (leb (flag_at r) (most_flag e)
    && blank r (flag_byte + 1) row_size)))))

-- Besides, a start row has no flag.
unfoldable pub start_sound : Edition → List ℕ → Bool
start_sound e r = sound e r && eqb (flag_at r) 0

-- The answer that a row gives.
unfoldable pub answer_of : List ℕ → Answer
answer_of r = record { next = get_or r 0 0; outcome = get_or r 1 0; acts = take (get_or r 2 0) (drop 3 r) }

-- The rows are read in order: the first without a flag, or whose flag is up, is taken; an all_zero row or the end means ignored.
abbrev pub zeros : List ℕ → Bool
zeros r = blank r 0 row_size

unfoldable pub taken : Flags → ℕ → List (List ℕ) → Answer
taken is_up x [] = ignored x
taken is_up x (r ∷ rs) = cond (zeros r) (ignored x) (cond (is_open is_up (flag_at r)) (answer_of r) (taken is_up x rs))

-- Each row that is read is sound, or, in a guarded table, all 0.
unfoldable pub readable : Edition → List ℕ → Bool
readable Plain r = sound Plain r
readable Guarded r = sound Guarded r || zeros r

unfoldable pub all_read : Edition → Flags → List (List ℕ) → Bool
all_read e is_up [] = true
all_read e is_up (r ∷ rs) = readable e r && (zeros r || (is_open is_up (flag_at r) || all_read e is_up rs))

abbrev pub flat_step : Edition → List ℕ → Flags → ℕ → ℕ → Answer
flat_step e t is_up s g = taken is_up s (rows_at e t s g)

-- What befalls an object: a signal, or one of its flags is set or cleared.
pub data Move : Type 0 where
  signal : ℕ → Move
  flag : ℕ → Bool → Move

-- What steps f answer to a list of moves, one after the other, from the state of rest s.
unfoldable pub run : (Flags → ℕ → ℕ → Answer) → Flags → ℕ → List Move → List Answer
run f is_up s [] = []
run f is_up s (signal g ∷ ms) = f is_up s g ∷ run f is_up (f is_up s g).next ms
run f is_up s (flag i v ∷ ms) = run f (put i v is_up) s ms

unfoldable pub signals : List Move → Bool
signals [] = true
signals (signal g ∷ ms) = is_signal g && signals ms
signals (flag i v ∷ ms) = signals ms

-- Flat and nested agree: the table starts as the chart does, and answers any list of moves as the chart does.
pub record Agrees (e : Edition) (d t : List ℕ) : Type 0 where
  pub starts : answer_of (row_at t 0) ≡ start d
  pub runs : (ms : List Move) → signals ms ≡ true → run (flat_step e t) all_down (answer_of (row_at t 0)).next ms ≡ run (step d) all_down (start d).next ms
