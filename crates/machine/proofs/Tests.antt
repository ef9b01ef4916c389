-- What it says that no test of a list holds, and what a command answers by its tests.
use mathlib.Core.Bool.{Bool, true, false, not, ◌&&◌, ◌||◌}
use mathlib.Core.List.{List, [], ◌∷◌}
use mathlib.Core.Path.{◌≡◌, refl, sym}
use Prim.Native.Nat.{ℕ, zero, suc, ◌-◌, ◌≤◌, ◌<◌}
use native.Mathlib.Omega.{arith}
use borrow.Author.Tests.{eqb-false, ltb-false, not-true}
use lib.Dec.{eqb, ltb}
use Rattle.chart.specs.Numbers.{first_signal, last_signal}
use Rattle.ground.specs.Bools.{no_yes, and_left, and_right}
use Rattle.machine.specs.Inv.{IsSignal}
use Rattle.machine.specs.Numbers.{blocks, side_queues, outside, no_signal, no_block, no_side}
use Rattle.machine.specs.Reply.{no, bad_chart, Areas, Answer, answer, lowest, unless, unless_fault}
use Rattle.machine.specs.State.{State}

-- Of the first test of a list where none holds; its number is above 0.
pub lowest_none : (n : ℕ) (t : Bool) (l : List (ℕ × Bool)) → (n ≡ 0 → ⊥) → lowest ((n, t) ∷ l) ≡ 0 → (t ≡ false) × (lowest l ≡ 0)
unfolding lowest
lowest_none n true l ne e = absurd (ne e)
lowest_none n false l ne e = (refl, e)

-- Every test is false: pairs in the list's order, so that of h : NoneHolds l the third test's is h.1.1.0.
abbrev pub NoneHolds : List (ℕ × Bool) → Type 0
NoneHolds [] = Unit {0}
NoneHolds (x ∷ l) = (x.1 ≡ false) × NoneHolds l

-- No number is 0: of a list that is written out this computes.
abbrev pub numbered : List (ℕ × Bool) → Bool
numbered [] = true
numbered (x ∷ l) = not (eqb x.0 0) && numbered l

pub none_holds : (l : List (ℕ × Bool)) → numbered l ≡ true → lowest l ≡ 0 → NoneHolds l
none_holds [] h e = tt
none_holds (x ∷ l) h e =
    let ne = eqb-false x.0 0 (not-true _ (and_left (not (eqb x.0 0)) (numbered l) h)) in
    let f = lowest_none x.0 x.1 l ne e in
    (f.0, none_holds l (and_right (not (eqb x.0 0)) (numbered l) h) f.1)

-- Where every test is false the lowest number is 0.
pub lowest-zero : (l : List (ℕ × Bool)) → NoneHolds l → lowest l ≡ 0
unfolding lowest
lowest-zero [] h = refl
lowest-zero (x ∷ l) h = rw h.0 (lowest-zero l h.1)

-- A number that is not outside a range lies in it.
pub or_false : (a b : Bool) → (a || b) ≡ false → (a ≡ false) × (b ≡ false)
or_false true b e = no_yes (sym e)
or_false false b e = (refl, e)

module _ (low high n : ℕ) where
  pub within_low : outside low high n ≡ false → low ≤ n
  unfolding outside
  within_low e = ltb-false n low (or_false (ltb n low) (ltb high n) e).0

  pub within_high : outside low high n ≡ false → n ≤ high
  unfolding outside
  within_high e = ltb-false high n (or_false (ltb n low) (ltb high n) e).1

pub within-signal : (g : ℕ) → no_signal g ≡ false → IsSignal g
within-signal g e = record { low = within_low first_signal last_signal g e; high = within_high first_signal last_signal g e }

pub within_block : (b : ℕ) → no_block b ≡ false → b < blocks
within_block b e = omega (arith, within_high 0 (blocks - 1) b e)

pub within-side : (q : ℕ) → no_side q ≡ false → q < side_queues
within-side q e = omega (arith, within_high 0 (side_queues - 1) q e)

-- What a command answers: a refusal, or what it does.
module _ (s : State) (z : Areas) (a : Answer) where
  pub unless_none : (n : ℕ) → n ≡ 0 → unless n s z a ≡ a
  unfolding unless
  unless_none n e = rw e refl

  pub unless_some : (n : ℕ) → (n ≡ 0 → ⊥) → unless n s z a ≡ answer s (no n) z
  unfolding unless
  unless_some zero ne = absurd (ne refl)
  unless_some (suc n) ne = refl

  -- LOAD: to a good chart, and to a refused one
  pub fault_none : (c : ℕ) → c ≡ 0 → unless_fault c s z a ≡ a
  unfolding unless_fault
  fault_none c e = rw e refl

  pub fault_some : (c : ℕ) → (c ≡ 0 → ⊥) → unless_fault c s z a ≡ answer s (bad_chart c) z
  unfolding unless_fault
  fault_some zero ne = absurd (ne refl)
  fault_some (suc c) ne = refl

  module _ (P : Answer → Type 0) where
    pub unless_pick : (n : ℕ) → ((k : ℕ) → n ≡ suc k → P (answer s (no (suc k)) z)) → (n ≡ 0 → P a) → P (unless n s z a)
    unfolding unless
    unless_pick zero f g = g refl
    unless_pick (suc n) f g = f n refl

    pub fault_pick : (c : ℕ) → ((k : ℕ) → c ≡ suc k → P (answer s (bad_chart (suc k)) z)) → (c ≡ 0 → P a) → P (unless_fault c s z a)
    unfolding unless_fault
    fault_pick zero f g = g refl
    fault_pick (suc c) f g = f c refl

  -- The state after: as it was, or what is done where no test holds.
  module _ (P : State → Type 0) (kept : P s) where
    pub unless-state : (l : List (ℕ × Bool)) → numbered l ≡ true → (NoneHolds l → P a.state) → P (unless (lowest l) s z a).state
    unless-state l h f = unless_pick (λ b. P b.state) (lowest l) (λ k e. kept) (λ e. f (none_holds l h e))

    pub fault_state : (c : ℕ) → P a.state → P (unless_fault c s z a).state
    fault_state c f = fault_pick (λ b. P b.state) c (λ k e. kept) (λ e. f)
