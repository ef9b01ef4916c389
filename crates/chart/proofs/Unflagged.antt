-- The case with no flags: where no row has one, flags change nothing; in a plain table the one row for a state and signal is the step's.
use mathlib.Core.Bool.{Bool, true, false, ◌&&◌, ◌||◌}
use mathlib.Core.List.{List, [], ◌∷◌}
use mathlib.Core.Path.{◌≡◌, refl, sym, ap, ◌∙◌}
use Prim.Native.Nat.{ℕ}
use native.Mathlib.Omega.{arith}
use borrow.Author.Tests.{eq-eqb}
use Rattle.ground.specs.Range.{tab_from}
use Rattle.chart.specs.Chart.{is_signal, has_row, flag_of, outward}
use Rattle.chart.specs.Flags.{Flags, all_down, is_open}
use Rattle.chart.specs.Flat.{row_of, row_at, slot_bytes, place, sound, flag_at, answer_of, zeros, taken, readable, all_read}
use Rattle.chart.specs.Held.{open_row}
use Rattle.chart.specs.Numbers.{Plain}
use Rattle.chart.specs.Step.{Answer, first_of, answer_by, step}
use Rattle.chart.proofs.Accepted.{Accepted, State, row-flag}
use Rattle.chart.proofs.Agree.{slot_reads}
use Rattle.chart.proofs.InOrder.{Reads}
use Rattle.chart.proofs.OneRow.{plain_open, row_of_answer, sound-is}

-- ## Steps
-- no row of the chart has a flag
pub NoFlags : List ℕ → Type 0
NoFlags d = (s g : ℕ) → has_row d g s ≡ true → flag_of d g s ≡ 0

pub plain_no_flags : (d : List ℕ) → Accepted Plain d → NoFlags d
unfolding NoFlags
plain_no_flags d acc s g h = let z = row-flag d acc s g h in omega arith

module _ (d : List ℕ) (none : NoFlags d) where
  open_row_lem : (is_up : Flags) (g s : ℕ) → open_row d is_up g s ≡ has_row d g s
  unfolding NoFlags
  open_row_lem is_up g s = go (has_row d g s) refl
    where
      go : (b : Bool) → has_row d g s ≡ b → (b && is_open is_up (flag_of d g s)) ≡ b
      go true q = rw (eq-eqb (flag_of d g s) 0 (none s g q))
      go false q = refl

  pub flags_nothing : (is_up : Flags) (x g : ℕ) → step d is_up x g ≡ step d all_down x g
  unfolding step
  flags_nothing is_up x g = ap (λ p. answer_by d x g (first_of p (outward d x))) (λ i s. (open_row_lem is_up g s ∙ sym (open_row_lem all_down g s)) i)

-- ## Rows
module _ (is_up : Flags) (x : ℕ) (r : List ℕ) where
  -- of a plain table one row is read: it must be sound, and gives its answer
  pub plain_fits : all_read Plain is_up (r ∷ []) ≡ sound Plain r
  unfolding all_read readable
  plain_fits = go (sound Plain r) (zeros r) (is_open is_up (flag_at r))
    where
      go : (a b c : Bool) → (a && (b || (c || true))) ≡ a
      go false b c = refl
      go true true c = refl
      go true false true = refl
      go true false false = refl

  pub plain_taken : sound Plain r ≡ true → taken is_up x (r ∷ []) ≡ answer_of r
  unfolding taken
  plain_taken s = let w = plain_open is_up r s in rw (w.0, w.1)

  plain_row : (a : Answer) → Reads Plain is_up x (r ∷ []) a → r ≡ row_of 0 a
  plain_row a h =
      let s = sym plain_fits ∙ h.fits in
      let w = sound-is Plain r s in
      let z : flag_at r ≡ 0 = let z = w.flag in omega arith in
      sym (row_of_answer Plain r w) ∙ ap (λ f. row_of f (answer_of r)) z ∙ ap (row_of 0) (sym (plain_taken s) ∙ h.gives)

pub slot_row : (d : List ℕ) → Accepted Plain d → (is_up : Flags) (s g : ℕ) → State d s → is_signal g ≡ true → row_at (slot_bytes Plain d) (place Plain s g 0) ≡ row_of 0 (step d is_up s g)
unfolding tab_from
slot_row d acc is_up s g h t = plain_row is_up s _ _ (slot_reads d acc is_up s g h t)
