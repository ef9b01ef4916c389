-- Laws of Bools: what a conjunction says of its parts, and choosing by a test.
use Rattle.std.specs.Prelude.{Bool, true, false, cond, not, ◌&&◌, ◌||◌, ◌⊎◌, ◌≡◌, refl, ℕ, eqb}
use Rattle.std.proofs.Common.{inl, inr, sym, ap, ◌∙◌, arith, eqb-true}
use Rattle.std.proofs.lemmas.Bool.{eqb-false, not-true, not-false}

pub no_yes : {A : Type 0} → false ≡ true → A
no_yes e = absurd (let z : ◌≡◌ {A = ℕ} 0 1 = ap (λ b. cond b 1 0) e in omega arith)

pub and_left : (a b : Bool) → (a && b) ≡ true → a ≡ true
and_left true b e = refl
and_left false b e = e

pub and_right : (a b : Bool) → (a && b) ≡ true → b ≡ true
and_right true b e = e
and_right false b e = no_yes e

pub and_both : (a b : Bool) → a ≡ true → b ≡ true → (a && b) ≡ true
and_both a b e f = rw (e, f)

-- two tests of which each follows from the other
pub same_test : (a b : Bool) → (a ≡ true → b ≡ true) → (b ≡ true → a ≡ true) → a ≡ b
same_test true b f g = sym (f refl)
same_test false true f g = g refl
same_test false false f g = refl

pub or_right : (a b : Bool) → b ≡ true → (a || b) ≡ true
or_right true b e = refl
or_right false b e = e

-- what holds of both choices holds of the one that is made
pub cond_pick : {A : Type 0} (P : A → Type 0) (b : Bool) (x y : A) → (b ≡ true → P x) → (b ≡ false → P y) → P (cond b x y)
cond_pick P true x y f g = f refl
cond_pick P false x y f g = g refl

pub cond_else : (b x y : Bool) → b ≡ false → cond b x y ≡ true → y ≡ true
cond_else true x y e h = no_yes (sym e)
cond_else false x y e h = h

-- two numbers are equal or not
eq_or_go : (a b : ℕ) (t : Bool) → eqb a b ≡ t → (a ≡ b) ⊎ (a ≡ b → ⊥)
eq_or_go a b true e = inl (eqb-true a b e)
eq_or_go a b false e = inr (eqb-false a b e)

pub eq_or : (a b : ℕ) → (a ≡ b) ⊎ (a ≡ b → ⊥)
eq_or a b = eq_or_go a b (eqb a b) refl

-- what a refused or passed test of a callee's answer tells of the callee's definition
pub refused : {r b : Bool} → r ≡ b → not r ≡ true → b ≡ false
refused {r} e t = sym e ∙ not-true r t

pub passed : {r b : Bool} → r ≡ b → not r ≡ false → b ≡ true
passed {r} e t = sym e ∙ not-false r t

pub cond_all : {A : Type 0} (P : A → Type 0) (t : Bool) {x y : A} → P x → P y → P (cond t x y)
cond_all P t {x} {y} p q = cond_pick P t x y (λ e. p) (λ e. q)
