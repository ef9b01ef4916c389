-- The slot's rows are the chart's, and so its bytes answer as the nested rules do, in both editions.
use mathlib.Core.Bool.{true}
use mathlib.Core.List.{List, [], ◌∷◌}
use mathlib.Core.Path.{◌≡◌, refl, ap, ◌∙◌}
use Prim.Native.Nat.{ℕ, ◌+◌, ◌-◌, ◌*◌, ◌/◌, ◌%◌, ◌≤◌, ◌<◌}
use native.Mathlib.Omega.{arith}
use borrow.Author.Tests.{le-leb}
use lib.ListN.{get_or}
use Rattle.bits.specs.Members.{put}
use Rattle.ground.specs.Bools.{and_left, and_right}
use Rattle.ground.specs.Tab.{tab_ext}
use Rattle.chart.specs.Chart.{is_signal, states, outward}
use Rattle.chart.specs.Flags.{Flags}
use Rattle.chart.specs.Flat.{Agrees, Move, signal, flag, rows_out, behind, row_no, row_at, rows_at, slot_bytes, place, answer_of, flat_step, run, signals}
use Rattle.chart.specs.Held.{answer_at, is_sound, reading}
use Rattle.chart.specs.Numbers.{Edition, Plain, Guarded, most_states, first_signal, last_signal, signal_count, each, row_count}
use Rattle.chart.specs.Step.{step, start}
use Rattle.chart.proofs.Accepted.{Accepted, State, few, signal_of_lem, start_good, step_good}
use Rattle.chart.proofs.Found.{reading-gives, reading-sound}
use Rattle.chart.proofs.InOrder.{Reads, reads}
use Rattle.chart.proofs.OneRow.{answer_of_lem}
use Rattle.chart.proofs.Rows.{slot_at, slot-start}

-- ## The numbers of the rows
pub record Number (e : Edition) (s g i k : ℕ) : Type 0 where
  pub below : k < row_count e
  pub state : k / (signal_count * each e) + 1 ≡ s
  pub signal : k / each e % signal_count + first_signal ≡ g
  pub row : k % each e ≡ i

number : (e : Edition) (s g i : ℕ) → 1 ≤ s → s ≤ most_states e → first_signal ≤ g → g ≤ last_signal → i < each e
    → Number e s g i (each e * (signal_count * (s - 1) + (g - first_signal)) + i)
number Plain s g i h1 h2 h3 h4 h5 = record { below = omega arith; state = omega arith; signal = omega arith; row = omega arith }
number Guarded s g i h1 h2 h3 h4 h5 = record { below = omega arith; state = omega arith; signal = omega arith; row = omega arith }

-- ## The slot
module _ {e : Edition} (d : List ℕ) (acc : Accepted e d) where
  row_is : (s g i k : ℕ) → State d s → Number e s g i k → row_no e d k ≡ get_or (rows_out d s g (outward d s)) i (behind e s)
  unfolding row_no
  row_is s g i k h n = rw (n.state, n.signal, n.row, le-leb s (states d) h.high)

  slot_row : (s g i : ℕ) → State d s → is_signal g ≡ true → i < each e
      → row_at (slot_bytes e d) (place e s g i) ≡ get_or (rows_out d s g (outward d s)) i (behind e s)
  unfolding place
  slot_row s g i h t l =
      let b = signal_of_lem g t in
      let m = (few e (states d) d acc.forms).1 in
      let u = h.high in
      let n = number e s g i h.low (omega arith) b.0 b.1 l in
      slot_at e d _ n.below ∙ row_is s g i _ h n

  -- what is read of the slot for a state and signal is the nested step
  pub slot_reads : (is_up : Flags) (s g : ℕ) → State d s → is_signal g ≡ true → Reads e is_up s (rows_at e (slot_bytes e d) s g) (step d is_up s g)
  slot_reads is_up s g h t = rw (tab_ext (λ i. row_at (slot_bytes e d) (place e s g i)) _ (each e) (λ i l. slot_row s g i h t l)) (reads d acc is_up s g h)

  start_agrees : answer_of (row_at (slot_bytes e d) 0) ≡ start d
  start_agrees = ap answer_of (slot-start e d) ∙ answer_of_lem 0 (start d) (start_good d acc).few

  runs_agree : (ms : List Move) (is_up : Flags) (s : ℕ) → State d s → signals ms ≡ true → run (flat_step e (slot_bytes e d)) is_up s ms ≡ run (step d) is_up s ms
  unfolding run signals
  runs_agree [] is_up s h t = refl
  runs_agree (signal g ∷ ms) is_up s h t =
      let a = slot_reads is_up s g h (and_left (is_signal g) (signals ms) t) in
      rw (a.gives, runs_agree ms is_up (step d is_up s g).next (step_good d acc is_up s g h).rests (and_right (is_signal g) (signals ms) t))
  runs_agree (flag i v ∷ ms) is_up s h t = runs_agree ms (put i v is_up) s h t

  pub agrees : Agrees e d (slot_bytes e d)
  agrees = record {
    starts = start_agrees;
    runs = λ ms t. rw start_agrees (runs_agree ms _ (start d).next (start_good d acc).rests t);
  }

  -- what the code's reading of the slot for a state and signal tells is the nested step
  pub slot-reading : (is_up : Flags) (s g : ℕ) → State d s → is_signal g ≡ true
      → let r = reading e is_up (slot_bytes e d) (place e s g 0) (each e) in (is_sound r ≡ true) × (answer_at (slot_bytes e d) s r ≡ step d is_up s g)
  slot-reading is_up s g h t =
      let w = slot_reads is_up s g h t in
      let fits = reading-sound e is_up (slot_bytes e d) s g ∙ w.fits in
      (fits, reading-gives e is_up (slot_bytes e d) s g s fits ∙ w.gives)
