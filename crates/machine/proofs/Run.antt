-- Laws of runs: one turn of the loop, and how many steps it takes.
use mathlib.Core.List.{List}
use mathlib.Core.Path.{◌≡◌, refl}
use Prim.Native.Nat.{ℕ, zero, suc, ◌+◌, ◌-◌, ◌≤◌, ◌<◌}
use native.Mathlib.Omega.{arith}
use borrow.Author.Tests.{eq-eqb, ne_eqb}
use lib.Dec.{eqb}
use Rattle.chart.specs.Flags.{Flags}
use Rattle.ground.specs.Bools.{cond_pick}
use Rattle.machine.specs.Reply.{BothTables}
use Rattle.machine.specs.Run.{Run, FitFor, FitRun, may_step, onward, run_from, seen}

module _ (gens signals seats : List ℕ) (flags : ℕ → Flags) (tables : BothTables) where
  abbrev may : Run → ℕ
  may x = may_step gens signals seats flags tables x

  abbrev on : Run → Run
  on x = onward gens signals seats flags tables x

  abbrev from : ℕ → Run → Run
  from k x = run_from gens signals seats flags tables k x

  module _ (x : Run) where
    -- at step n of e
    pub run_end : (n e : ℕ) → e ≤ n → from (e - n) x ≡ x
    unfolding run_from
    run_end n e h = let z : e - n ≡ 0 = omega arith in rw z refl

    pub run_stop : (k : ℕ) → (may x ≡ 0 → ⊥) → from k x ≡ x
    unfolding run_from
    run_stop zero ne = refl
    run_stop (suc k) ne = rw (ne_eqb (may x) 0 ne) refl

    pub run_step : (n e : ℕ) → n < e → may x ≡ 0 → from (e - n) x ≡ from (e - (n + 1)) (on x)
    unfolding run_from
    run_step n e h t = let z : e - n ≡ suc (e - (n + 1)) = omega arith in rw (z, eq-eqb (may x) 0 t) refl

    -- the state that it stands in is fit for a step, and so are those after it
    pub fit_now : FitRun gens signals seats flags tables x → FitFor (seen gens signals seats flags x)
    unfolding run_from
    fit_now f = f 0

    pub fit_on : may x ≡ 0 → FitRun gens signals seats flags tables x → FitRun gens signals seats flags tables (on x)
    unfolding run_from
    fit_on t f = λ k. rw (eq-eqb (may x) 0 t) at (f (suc k))

  pub run_most : (k : ℕ) (x : Run) → (from k x).steps ≤ x.steps + k
  unfolding run_from onward
  run_most zero x = omega arith
  run_most (suc k) x = cond_pick (λ (y : Run). y.steps ≤ x.steps + suc k) (eqb (may x) 0) _ _ (λ t. omega (arith, run_most k (on x))) (λ t. omega arith)
