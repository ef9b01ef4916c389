-- A guarded chart: the states of the shift chart with rows for signals 8 and 9, some of them with a flag.
use Rattle.std.specs.Prelude.{true, false, List, [], ◌∷◌, ◌++◌, ◌≡◌, refl, ℕ, replicate, take}
use Rattle.bits.specs.Members
use Rattle.ground.specs.Bytes
use Rattle.ground.specs.Range
use Rattle.chart.specs.Chart
use Rattle.chart.specs.Chart.{class_of}
use Rattle.chart.specs.Flags.{all_down}
use Rattle.chart.specs.Flat
use Rattle.chart.specs.Flat.{flag, place, row_at, run, signal, slot_bytes}
use Rattle.chart.specs.Numbers.{Guarded, Plain, row_size}
use Rattle.chart.specs.Shift
use Rattle.chart.specs.Shift.{shift}
use Rattle.chart.specs.Step
use Rattle.chart.specs.Step.{Answer, step}

-- the shift chart's top and states, with these rows
unfoldable pub shift_with : List ℕ → List ℕ
shift_with rows = take 48 shift ++ rows

-- (1, 8) to 1, action 15; (1, 9) internal 19, flag 3; (3, 8) to 5, action 38, flag 2; (3, 9) internal 39; (4, 8) internal 49, flag 1
unfoldable pub alarm : List ℕ
alarm =
    shift_with
    (2 ∷ 1 ∷ 8 ∷ 1 ∷ 1 ∷ 15 ∷ 0 ∷ 0
    ∷ 2 ∷ 1 ∷ 9 ∷ 0 ∷ 0 ∷ 19 ∷ 3 ∷ 0
    ∷ 2 ∷ 3 ∷ 8 ∷ 1 ∷ 5 ∷ 38 ∷ 2 ∷ 0
    ∷ 2 ∷ 3 ∷ 9 ∷ 0 ∷ 0 ∷ 39 ∷ 0 ∷ 0
    ∷ 2 ∷ 4 ∷ 8 ∷ 0 ∷ 0 ∷ 49 ∷ 1 ∷ 0 ∷ [])

abbrev gives : ℕ → ℕ → List ℕ → Answer
gives s o l = record { next = s; outcome = o; acts = l }

-- It is a good one of edition two and not of edition one, and a flag 9 is class 4. With all flags down signal 8 at rest in 4 finds the row
-- of 1, and signal 9 at rest in 2 none. After flag 1 went up signal 8 finds the row of 4, after flag 2 went up and flag 1 down that of 3.
pub record Alarmed : Type 0 where
  pub good : class_of Guarded alarm ≡ 0
  pub other : class_of Plain alarm ≡ 2
  pub nine : class_of Guarded (shift_with (2 ∷ 1 ∷ 8 ∷ 1 ∷ 1 ∷ 15 ∷ 9 ∷ 0 ∷ [])) ≡ 4
  pub down : step alarm all_down 4 8 ≡ gives 2 2 (15 ∷ 42 ∷ 32 ∷ 12 ∷ 11 ∷ 13 ∷ 21 ∷ [])
  pub none : step alarm all_down 2 9 ≡ gives 2 0 []
  pub moves :
      run (step alarm) all_down 4 (flag 1 true ∷ signal 8 ∷ flag 2 true ∷ flag 1 false ∷ signal 8 ∷ [])
      ≡ gives 4 1 (49 ∷ []) ∷ gives 5 2 (38 ∷ 42 ∷ 51 ∷ []) ∷ []

-- The rows of (4, 8) begin at 12,696: those of 4, 3 and 1, then zeros. Those of (4, 9) begin at 12,840: that of 3, which has no flag, and
-- zeros instead of that of 1.
pub record Placed : Type 0 where
  pub begins₈ : place Guarded 4 8 0 ≡ 12696
  pub row₀ : row_at (slot_bytes Guarded alarm) 12696 ≡ 4 ∷ 1 ∷ 1 ∷ 49 ∷ replicate 17 0 ++ (1 ∷ 0 ∷ 0 ∷ [])
  pub row₁ : row_at (slot_bytes Guarded alarm) 12720 ≡ 5 ∷ 2 ∷ 3 ∷ 38 ∷ 42 ∷ 51 ∷ replicate 15 0 ++ (2 ∷ 0 ∷ 0 ∷ [])
  pub row₂ : row_at (slot_bytes Guarded alarm) 12744 ≡ 2 ∷ 2 ∷ 7 ∷ 15 ∷ 42 ∷ 32 ∷ 12 ∷ 11 ∷ 13 ∷ 21 ∷ replicate 14 0
  pub row₃ : row_at (slot_bytes Guarded alarm) 12768 ≡ replicate row_size 0
  pub begins₉ : place Guarded 4 9 0 ≡ 12840
  pub last : row_at (slot_bytes Guarded alarm) 12840 ≡ 4 ∷ 1 ∷ 1 ∷ 39 ∷ replicate 20 0
  pub hidden : row_at (slot_bytes Guarded alarm) 12864 ≡ replicate row_size 0

pub alarm_stated : Alarmed
unfolding Shift.shift shift_with alarm Range.first_from Range.every_from Chart.byte Chart.parent Chart.states Chart.row_for Chart.path Chart.has Chart.length_ok Chart.among Chart.is_signal Bytes.blank Chart.form_ok Chart.forms_ok Chart.parent_ok Chart.state_ok Chart.tree_ok Chart.row_ok Chart.rows_ok Chart.class_of Step.listed Step.up_to Step.leave Step.enter Step.first_of Step.limit Step.settle Step.moved Step.row_does Step.answer_by Step.step Members.put Flat.run
alarm_stated = record { good = refl; other = refl; nine = refl; down = refl; none = refl; moves = refl }

pub alarm_placed : Placed
unfolding Shift.shift shift_with alarm Range.first_from Chart.byte Chart.parent Chart.states Chart.row_for Chart.path Chart.has Bytes.padded Step.listed Step.up_to Step.leave Step.enter Step.first_of Step.limit Step.settle Step.moved Step.row_does Step.answer_by Step.start Flat.row_of Flat.rows_out Flat.behind Flat.row_no Flat.rows_from Flat.slot_bytes Flat.place
alarm_placed = record { begins₈ = refl; row₀ = refl; row₁ = refl; row₂ = refl; row₃ = refl; begins₉ = refl; last = refl; hidden = refl }
