-- The shift chart of document 01, and its cases marked * as one table, in the order of actions that document 02's request 2 gives them.
use Rattle.std.specs.Prelude.{cond, List, [], ◌∷◌, map, ◌≡◌, refl, ℕ, eqb, replicate}
use Rattle.ground.specs.Bytes
use Rattle.ground.specs.Range
use Rattle.chart.specs.Chart
use Rattle.chart.specs.Chart.{class_of}
use Rattle.chart.specs.Flags.{all_down}
use Rattle.chart.specs.Flat
use Rattle.chart.specs.Flat.{place, row_at, slot_bytes}
use Rattle.chart.specs.Numbers.{Plain}
use Rattle.chart.specs.Step
use Rattle.chart.specs.Step.{Answer, step, start}

unfoldable pub shift : List ℕ
shift =
    3 ∷ 1 ∷ 10 ∷ 0 ∷ 0 ∷ 0 ∷ 0 ∷ 0
    ∷ 1 ∷ 0 ∷ 11 ∷ 12 ∷ 2 ∷ 13 ∷ 0 ∷ 0
    ∷ 1 ∷ 1 ∷ 21 ∷ 22 ∷ 0 ∷ 0 ∷ 0 ∷ 0
    ∷ 1 ∷ 1 ∷ 31 ∷ 32 ∷ 4 ∷ 33 ∷ 0 ∷ 0
    ∷ 1 ∷ 3 ∷ 41 ∷ 42 ∷ 0 ∷ 0 ∷ 0 ∷ 0
    ∷ 1 ∷ 3 ∷ 51 ∷ 52 ∷ 0 ∷ 0 ∷ 0 ∷ 0
    ∷ 2 ∷ 1 ∷ 5 ∷ 1 ∷ 1 ∷ 15 ∷ 0 ∷ 0
    ∷ 2 ∷ 2 ∷ 6 ∷ 1 ∷ 4 ∷ 26 ∷ 0 ∷ 0
    ∷ 2 ∷ 3 ∷ 7 ∷ 1 ∷ 2 ∷ 37 ∷ 0 ∷ 0
    ∷ 2 ∷ 3 ∷ 8 ∷ 1 ∷ 5 ∷ 38 ∷ 0 ∷ 0
    ∷ 2 ∷ 4 ∷ 9 ∷ 0 ∷ 0 ∷ 49 ∷ 0 ∷ 0
    ∷ 2 ∷ 4 ∷ 10 ∷ 1 ∷ 3 ∷ 40 ∷ 0 ∷ 0
    ∷ 2 ∷ 5 ∷ 11 ∷ 1 ∷ 1 ∷ 59 ∷ 0 ∷ 0 ∷ []

-- A case: the state of rest, 0 for the start, the signal, and the answer.
pub record Case : Type 0 where
  pub rest : ℕ
  pub signal : ℕ
  pub answer : Answer

pub was : ℕ → ℕ → ℕ → ℕ → List ℕ → Case
was s g o n l = record { rest = s; signal = g; answer = record { next = n; outcome = o; acts = l } }

pub cases : List Case
cases =
    was 0 0 2 2 (10 ∷ 11 ∷ 13 ∷ 21 ∷ [])
    ∷ was 2 6 2 4 (26 ∷ 22 ∷ 31 ∷ 41 ∷ [])
    ∷ was 4 9 1 4 (49 ∷ [])
    ∷ was 4 8 2 5 (38 ∷ 42 ∷ 51 ∷ [])
    ∷ was 4 10 2 4 (40 ∷ 42 ∷ 33 ∷ 41 ∷ [])
    ∷ was 4 7 2 2 (37 ∷ 42 ∷ 32 ∷ 21 ∷ [])
    ∷ was 5 11 2 2 (59 ∷ 52 ∷ 32 ∷ 13 ∷ 21 ∷ [])
    ∷ was 4 5 2 2 (15 ∷ 42 ∷ 32 ∷ 12 ∷ 11 ∷ 13 ∷ 21 ∷ [])
    ∷ was 2 9 0 2 []
    ∷ []

pub given : Case → Answer
given k = cond (eqb k.rest 0) (start shift) (step shift all_down k.rest k.signal)

-- The chart is a good one; the definitions give what the documents state, in every case; and the row of (4, 8) stands where they say.
pub record Stated : Type 0 where
  pub good : class_of Plain shift ≡ 0
  pub answers : map given cases ≡ map (λ k. k.answer) cases
  pub begins : place Plain 4 8 0 ≡ 2136
  pub row : row_at (slot_bytes Plain shift) 2136 ≡ 5 ∷ 2 ∷ 3 ∷ 38 ∷ 42 ∷ 51 ∷ replicate 18 0

pub shift_stated : Stated
unfolding shift cases was given Range.first_from Range.every_from Chart.byte Chart.parent Chart.states Chart.row_for Chart.path Chart.has Chart.length_ok Chart.among Chart.is_signal Bytes.blank Bytes.padded Chart.form_ok Chart.forms_ok Chart.parent_ok Chart.state_ok Chart.tree_ok Chart.row_ok Chart.rows_ok Chart.class_of Step.listed Step.up_to Step.leave Step.enter Step.first_of Step.limit Step.settle Step.moved Step.row_does Step.answer_by Step.step Step.start Flat.row_of Flat.rows_out Flat.behind Flat.row_no Flat.rows_from Flat.slot_bytes Flat.place
shift_stated = record { good = refl; answers = refl; begins = refl; row = refl }
