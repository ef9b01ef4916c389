use mathlib.Core.Path.{◌≡◌}
use Prim.Native.Nat.{ℕ, ◌-◌, ◌≤◌}
use Rattle.machine.specs.Run.{Run}
use Rattle.mail.specs.View.{boxes}
use Rattle.drain.specs.Lent.{Above, FitOn, Sized, run_at, run_on}
use Rattle.drain.specs.declared.Fixed.{Fixed}
use Rattle.drain.proofs.run.Given as goal

-- What is left of the run, from x where it stands, is the whole run from y; and no object above p has mail.
pub record Still (f : Fixed) (budget p : ℕ) (y x : Run) : Type 0 where
  pub within : x.steps ≤ budget
  pub sized : Sized x
  pub fit : FitOn f x
  pub above : Above p x.boxes
  pub same : run_on f (budget - x.steps) x ≡ run_on f budget y

abbrev pub invariant-loop-p : goal.invariant-loop-p
invariant-loop-p l =
    Still l.fixed l.budget l.p (run_at (boxes l.initial.mail) l.initial.rests l.initial.times l.initial.log 0) (run_at (boxes l.mail) l.rests l.times l.log l.n)
