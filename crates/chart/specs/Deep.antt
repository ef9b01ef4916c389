-- A chart whose steps go as far as they can: six states, each in the one before and each the initial target of that one.
use Rattle.std.specs.Prelude.{List, [], ◌∷◌, ◌≡◌, refl, ℕ, length}
use Rattle.ground.specs.Bytes
use Rattle.ground.specs.Range
use Rattle.chart.specs.Chart
use Rattle.chart.specs.Chart.{class_of, among, states}
use Rattle.chart.specs.Flags.{all_down}
use Rattle.chart.specs.Numbers.{most_actions, Plain}
use Rattle.chart.specs.Step
use Rattle.chart.specs.Step.{step}

pub deep : List ℕ
deep =
    3 ∷ 1 ∷ 10 ∷ 0 ∷ 0 ∷ 0 ∷ 0 ∷ 0
    ∷ 1 ∷ 0 ∷ 11 ∷ 21 ∷ 2 ∷ 31 ∷ 0 ∷ 0
    ∷ 1 ∷ 1 ∷ 12 ∷ 22 ∷ 3 ∷ 32 ∷ 0 ∷ 0
    ∷ 1 ∷ 2 ∷ 13 ∷ 23 ∷ 4 ∷ 33 ∷ 0 ∷ 0
    ∷ 1 ∷ 3 ∷ 14 ∷ 24 ∷ 5 ∷ 34 ∷ 0 ∷ 0
    ∷ 1 ∷ 4 ∷ 15 ∷ 25 ∷ 6 ∷ 35 ∷ 0 ∷ 0
    ∷ 1 ∷ 5 ∷ 16 ∷ 26 ∷ 0 ∷ 0 ∷ 0 ∷ 0
    ∷ 2 ∷ 1 ∷ 4 ∷ 1 ∷ 1 ∷ 40 ∷ 0 ∷ 0 ∷ []

-- It is a good one, and signal 4 at rest in its innermost state lists 18 actions.
pub record Reaches : Type 0 where
  pub good : class_of Plain deep ≡ 0
  pub actions :
      (step deep all_down 6 4).acts
      ≡ 40 ∷ 26 ∷ 25 ∷ 24 ∷ 23 ∷ 22 ∷ 21 ∷ 11 ∷ 31 ∷ 12 ∷ 32 ∷ 13 ∷ 33 ∷ 14 ∷ 34 ∷ 15 ∷ 35 ∷ 16 ∷ []
  pub count : length (step deep all_down 6 4).acts ≡ most_actions

pub deep_reaches : Reaches
unfolding deep Range.first_from Range.every_from Chart.byte Chart.parent Chart.states Chart.row_for Chart.path Chart.has Chart.length_ok Chart.among Chart.is_signal Bytes.blank Bytes.padded Chart.form_ok Chart.forms_ok Chart.parent_ok Chart.state_ok Chart.tree_ok Chart.row_ok Chart.rows_ok Chart.class_of Step.listed Step.up_to Step.leave Step.enter Step.first_of Step.limit Step.settle Step.moved Step.row_does Step.answer_by Step.step
deep_reaches = record { good = refl; actions = refl; count = refl }
