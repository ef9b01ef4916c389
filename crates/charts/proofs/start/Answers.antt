use borrow.Author.Tests.{not-false}
use mathlib.Core.Path.{refl, sym, ◌∙◌}
use Prim.Native.Nat.{◌≤◌, ◌<◌, ◌-◌}
use native.Mathlib.Omega.{arith}
use Rattle.ground.specs.Bools.{and_left}
use Rattle.chart.proofs.Theorems.{Sound, row_of_answer, sound-is}
use Rattle.chart.specs.Flat.{answer_of, start_sound}
use Rattle.mail.specs.Box.{room}
use Rattle.machine.proofs.Tests.{none_holds, within_low, within_high}
use Rattle.machine.specs.Charts.{start, start_tests}
use Rattle.machine.specs.Numbers.{objects, slots}
use Rattle.state.proofs.Glue.{refused, doing}
use Rattle.state.specs.View.{areas, told}
use Rattle.charts.proofs.start.Goals as goal
use Rattle.charts.proofs.start.Goals.{In_ok-start_refusal}

pub returns-in_err-start_refusal : goal.returns-in_err-start_refusal
unfolding start start_tests
returns-in_err-start_refusal c = λ x l.
    refused c.args.k.now (areas x _ _ l) _ _ _ _ c.from_residual.ensures.1
    (c.in_err-start_refusal.ensures ∙ rw (c.slot_bad.ensures, c.is_open.ensures, c.is_loaded.ensures, c.is_started.ensures, c.start_sound.ensures, c.edition_of.ensures, c.start_row-row.ensures) refl)

-- that no test holds: the numbers, and what a row has that may be a start row
module _ (c : In_ok-start_refusal) where
  numbers : (1 ≤ c.args.p) × (c.args.p ≤ objects) × (c.args.q < slots) × (c.args.depth ≤ room)
  numbers =
      let n = none_holds _ refl (sym c.in_ok-start_refusal.ensures) in (
        within_low 1 objects _ n.1.1.1.0,
        within_high 1 objects _ n.1.1.1.0,
        let h = within_high 0 (slots - 1) _ n.1.1.1.1.0 in omega arith,
        within_high 1 room _ n.1.1.1.1.1.0,
      )

  row : Sound c.edition_of.result c.start_row-row.result.now
  unfolding start_sound
  row =
      let n = none_holds _ refl (sym c.in_ok-start_refusal.ensures) in
      sound-is _ _ (and_left _ _ (sym c.start_sound.ensures ∙ not-false _ n.1.1.1.1.1.1.1.1.1.0))

pub bounds-row-0 : goal.bounds-row-0
bounds-row-0 c = let w = row (goal.at.bounds-row-0 c).In_ok-start_refusal in omega (arith, w.whole)

pub start_object-requires : goal.start_object-requires
start_object-requires c = numbers (goal.at.start_object-requires c).In_ok-start_refusal

pub overflow_cast-p : goal.overflow_cast-p
overflow_cast-p c = let h = numbers (goal.at.overflow_cast-p c).In_ok-start_refusal in omega arith

pub ran-requires : goal.ran-requires
ran-requires c =
    let w = row (goal.at.ran-requires c).In_ok-start_refusal in record {
      row_len = (w.whole, w.outcome, omega arith);
      row_value = row_of_answer _ _ w;
    }

pub returns : goal.returns
unfolding start start_tests told answer_of
returns c = λ x l.
    doing c.args.k.now (areas x _ _ l) _ _ _ _
    (c.in_ok-start_refusal.ensures ∙ rw (c.slot_bad.ensures, c.is_open.ensures, c.is_loaded.ensures, c.is_started.ensures, c.start_sound.ensures, c.edition_of.ensures, c.start_row-row.ensures) refl)
    (rw (c.start_object.ensures, c.ran.ensures, c.start_row-row.ensures) refl)
