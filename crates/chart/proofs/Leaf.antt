-- Composites have a start: what the check asks of a state's parent is that a state without an initial target is a leaf. So a start, and a step
-- from a leaf, lead to a leaf.
use mathlib.Core.Bool.{Bool, true, false, not, ◌&&◌, ◌||◌}
use mathlib.Core.List.{List}
use mathlib.Core.Logic.{⊎_elim}
use mathlib.Core.Path.{◌≡◌, refl, sym, ap, ◌∙◌}
use Prim.Native.Nat.{ℕ, ◌+◌}
use native.Mathlib.Omega.{arith}
use borrow.Author.Tests.{eq-eqb, ne_eqb, ltb-true, not-true}
use lib.Dec.{eqb, ltb}
use Rattle.ground.specs.Bools.{and_both, and_left, and_right, eq_or, no_yes}
use Rattle.ground.specs.Every.{every_all, every-at}
use Rattle.chart.specs.Chart.{ParentsStart, among, byte, class_of, leaf, parent, parent_ok, states, top_target}
use Rattle.chart.specs.Flags.{Flags}
use Rattle.chart.specs.Held.{settled}
use Rattle.chart.specs.Numbers.{Edition, levels}
use Rattle.chart.specs.Step.{moved, start, step}
use Rattle.chart.proofs.Accepted.{Accepted, State, accepted, is_state, parent_starts, settled_ends, settled-state, state_of_lem, step_cases, top_state}
use Rattle.chart.proofs.Steps.{settle_is}

module _ (d : List ℕ) where
  pub leaf-state : (s : ℕ) → leaf d s ≡ true → among (states d) s ≡ true
  unfolding leaf
  leaf-state s l = and_left (among (states d) s) _ l

  childless : (s t : ℕ) → leaf d s ≡ true → State d t → parent d t ≡ s → ⊥
  unfolding leaf
  childless s t l h e =
      let u = h.high in
      let no = every-at (λ t. not (eqb (parent d t) s)) 1 (states d + 1) t (and_right (among (states d) s) _ l) h.low (omega arith) in
      no_yes (sym (not-true (eqb (parent d t) s) no) ∙ eq-eqb (parent d t) s e)

  -- the check asks no more of a parent than that it is lower, where composites have a start
  pub asks_no_more : ParentsStart d → (s : ℕ) → State d s → parent_ok d s (parent d s) ≡ ltb (parent d s) s
  unfolding parent_ok
  asks_no_more starts s h = go (ltb p s) refl
    where
      p : ℕ
      p = parent d s

      has-start : (p ≡ 0 → ⊥) → ltb p s ≡ true → byte d p 4 ≡ 0 → ⊥
      has-start n l e =
          let u = h.high in
          let m = ltb-true p s l in
          childless p s (starts p (is_state d p (record { low = omega arith; high = omega arith })) e) h refl

      go : (t : Bool) → ltb p s ≡ t → (t && (eqb p 0 || not (eqb (byte d p 4) 0))) ≡ t
      go false l = refl
      go true l = ⊎_elim (λ z. rw (eq-eqb p 0 z) refl) (λ n. rw (ne_eqb p 0 n, ne_eqb (byte d p 4) 0 (has-start n l)) refl) (eq_or p 0)

module _ (e : Edition) (d : List ℕ) (good : class_of e d ≡ 0) where
  acc : Accepted e d
  acc = accepted e d good

  pub parents_start : ParentsStart d
  unfolding leaf
  parents_start s h z =
      and_both (among (states d) s) _ h (every_all _ 1 (states d + 1) (λ t low high. ap not (ne_eqb (parent d t) s (no_child t (record { low = low; high = omega arith })))))
    where
      no_child : (t : ℕ) → State d t → parent d t ≡ s → ⊥
      no_child t g q = parent_starts d acc t g (λ n. omega (arith, (state_of_lem d s h).low)) (rw q z)

  settled-leaf : (s : ℕ) → State d s → leaf d (settled levels d s) ≡ true
  settled-leaf s h = parents_start (settled levels d s) (is_state d _ (settled-state d acc levels s h)) (settled_ends d acc s h)

  moved-leaf : (x s t a : ℕ) → State d t → leaf d (moved d x s t a).next ≡ true
  unfolding moved
  moved-leaf x s t a h = rw (settle_is d levels t _) (settled-leaf t h)

  pub start-leaf : leaf d (start d).next ≡ true
  unfolding start
  start-leaf = rw (settle_is d levels (top_target d) _) (settled-leaf (top_target d) (top_state d acc))

  pub step-leaf : (is_up : Flags) (x g : ℕ) → leaf d x ≡ true → leaf d (step d is_up x g).next ≡ true
  step-leaf is_up x g h = step_cases d acc (λ r. leaf d r.next ≡ true) is_up x g h (λ i. h) (λ s t a i k. moved-leaf x s t a k)
