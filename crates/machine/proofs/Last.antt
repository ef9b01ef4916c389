-- A list of tests whose last one comes later than the others: what the lowest number is by what that one says.
use mathlib.Core.Bool.{Bool, true, false}
use mathlib.Core.List.{List, [], ◌∷◌, ◌++◌}
use mathlib.Core.Path.{◌≡◌, refl, sym}
use Prim.Native.Nat.{ℕ}
use borrow.Author.Tests.{eqb-false, not-true}
use lib.Dec.{eqb}
use Rattle.ground.specs.Bools.{and_left, and_right}
use Rattle.machine.proofs.Tests.{numbered}
use Rattle.machine.specs.Reply.{lowest}

module _ (n : ℕ) where
  -- a refusal by the others stands whatever it says
  pub refused_sooner : (t : Bool) (l : List (ℕ × Bool)) (m : ℕ) → (m ≡ 0 → ⊥) → m ≡ lowest (l ++ ((n, false) ∷ [])) → m ≡ lowest (l ++ ((n, t) ∷ []))
  unfolding lowest
  refused_sooner t [] m ne e = absurd (ne e)
  refused_sooner t ((k, true) ∷ l) m ne e = e
  refused_sooner t ((k, false) ∷ l) m ne e = refused_sooner t l m ne e

  -- where none of them refuses, it alone does
  pub refused-last : (l : List (ℕ × Bool)) → numbered l ≡ true → 0 ≡ lowest (l ++ ((n, false) ∷ [])) → n ≡ lowest (l ++ ((n, true) ∷ []))
  unfolding lowest
  refused-last [] h e = refl
  refused-last ((k, true) ∷ l) h e = absurd (eqb-false k 0 (not-true _ (and_left _ (numbered l) h)) (sym e))
  refused-last ((k, false) ∷ l) h e = refused-last l (and_right _ (numbered l) h) e
