-- The words that hold the flags of all objects: one flag set or cleared, and all those of an object cleared.
use mathlib.Core.Bool.{Bool, cond, false}
use mathlib.Core.List.{List}
use mathlib.Core.Logic.{⊎_elim}
use mathlib.Core.Path.{◌≡◌, ap, ◌∙◌}
use Prim.Native.Nat.{ℕ, ◌-◌, ◌<◌, ◌≤◌}
use borrow.Author.Tests.{eq-eqb, ne_eqb}
use lib.Dec.{eqb}
use lib.ListN.{length, get_or, set}
use Rattle.bits.specs.Members.{members, put}
use Rattle.chart.proofs.Theorems.{words_cleared, words_kept, words_others, words_put}
use Rattle.chart.specs.Flags.{Flags, all_down, in_words}
use Rattle.ground.specs.Bools.{eq_or}

-- flags that are those of `new` at p, and elsewhere as they were
module _ (after was : ℕ → Flags) (p : ℕ) (new : Flags) (here : after p ≡ new) (there : (x : ℕ) → (x ≡ p → ⊥) → after x ≡ was x) where
  of_object : (x : ℕ) → after x ≡ cond (eqb x p) new (was x)
  of_object x = ⊎_elim (λ q. rw (eq-eqb x p q) (ap after q ∙ here)) (λ ne. rw (ne_eqb x p ne) (there x ne)) (eq_or x p)

  replaced : after ≡ (λ (x : ℕ). cond (eqb x p) new (was x))
  replaced = λ i x. of_object x i

module _ (words : List ℕ) (p f w : ℕ) (v : Bool) (low : 1 ≤ f) (high : f ≤ length words) (changed : members w ≡ put p v (members (get_or words (f - 1) 0))) where
  pub flag-set : in_words (set words (f - 1) w) ≡ (λ (x : ℕ). cond (eqb x p) (put f v (in_words words p)) (in_words words x))
  flag-set = replaced _ (in_words words) p _ (words_put words p f w v low high changed) (words_others words p f w v low high changed)

module _ (words new : List ℕ) (p : ℕ) (same : length new ≡ length words)
    (without : (i : ℕ) → i < length words → members (get_or new i 0) ≡ put p false (members (get_or words i 0))) where
  pub all_lowered : in_words new ≡ (λ (x : ℕ). cond (eqb x p) all_down (in_words words x))
  all_lowered = replaced _ (in_words words) p _ (words_cleared words new p same without) (words_kept words new p same without)
