-- Lines in ascending number: the lowest that applies, and that none does.
use mathlib.Core.Bool.{Bool, true, false, ◌&&◌}
use mathlib.Core.List.{List, [], ◌∷◌}
use mathlib.Core.Path.{◌≡◌, refl, sym, ◌∙◌, subst}
use Prim.Native.Nat.{ℕ, ◌<◌, ◌≤◌}
use native.Mathlib.Decide.{dec_lt}
use native.Mathlib.Omega.{arith}
use borrow.Author.Tests.{eq-eqb, ne_eqb, ltb-true}
use lib.Dec.{eqb, ltb}
use Rattle.ground.specs.Bools.{no_yes, and_left, and_right, cond_pick}
use Rattle.machine.specs.Reply.{lowest}
use Rattle.story.specs.Table.{line}

abbrev pub Lines : Type 0
Lines = List (ℕ × Bool)

-- The numbers ascend, all above k: of a list that is written out this computes.
abbrev pub rising : ℕ → Lines → Bool
rising k [] = true
rising k (x ∷ l) = ltb k x.0 && rising x.0 l

-- the line with the number m
module _ (x : ℕ × Bool) (l : Lines) where
  line-here : line (x ∷ l) false x.0 ≡ x.1
  unfolding line
  line-here = rw (eq-eqb x.0 x.0 refl) refl

  module _ (m : ℕ) where
    line_other : (x.0 ≡ m → ⊥) → line (x ∷ l) false m ≡ line l false m
    unfolding line
    line_other ne = rw (ne_eqb x.0 m ne) refl

    -- where the first line does not apply
    module _ (off : x.1 ≡ false) where
      off_none : line l false m ≡ false → line (x ∷ l) false m ≡ false
      unfolding line
      off_none e = cond_pick (λ t. t ≡ false) (eqb x.0 m) x.1 (line l false m) (λ t. off) (λ t. e)

      off_some : line (x ∷ l) false m ≡ true → line l false m ≡ true
      unfolding line
      off_some = cond_pick (λ t. t ≡ true → line l false m ≡ true) (eqb x.0 m) x.1 (line l false m) (λ t e. no_yes (sym off ∙ e)) (λ t e. e)

-- no line has a number up to k
under : (l : Lines) (k m : ℕ) → rising k l ≡ true → m ≤ k → line l false m ≡ false
under [] k m h le = unfold line in refl
under (x ∷ l) k m h le =
    let lt : k < x.0 = ltb-true k x.0 (and_left (ltb k x.0) (rising x.0 l) h) in
    line_other x l m (λ q. omega arith) ∙ under l x.0 m (and_right (ltb k x.0) (rising x.0 l) h) (omega arith)

-- n's line applies, and none lower
pub record Leads (n : ℕ) (l : Lines) : Type 0 where
  pub this : line l false n ≡ true
  pub none_lower : (m : ℕ) → m < n → line l false m ≡ false

module _ (x : ℕ × Bool) (l : Lines) (k : ℕ) (h : rising k (x ∷ l) ≡ true) where
  above : k < x.0
  above = ltb-true k x.0 (and_left (ltb k x.0) (rising x.0 l) h)

  later : rising x.0 l ≡ true
  later = and_right (ltb k x.0) (rising x.0 l) h

  -- the first line applies: it leads, and nothing else does
  first_leads : x.1 ≡ true → Leads x.0 (x ∷ l)
  first_leads t = record {
    this = line-here x l ∙ t;
    none_lower = λ m lt. line_other x l m (λ q. omega arith) ∙ under l x.0 m later (omega arith);
  }

  only_first : (n : ℕ) → x.1 ≡ true → Leads n (x ∷ l) → x.0 ≡ n
  only_first n t w = go (dec_lt x.0 n) (dec_lt n x.0)
    where
      go : Dec (x.0 < n) → Dec (n < x.0) → x.0 ≡ n
      go (yes a) b = no_yes (sym (w.none_lower x.0 a) ∙ line-here x l ∙ t)
      go (no a) (yes b) = no_yes (sym (line_other x l n (λ q. omega arith) ∙ under l x.0 n later (omega arith)) ∙ w.this)
      go (no a) (no b) = omega arith

  -- it does not: what leads the others leads
  off_leads : (n : ℕ) → x.1 ≡ false → Leads n l → Leads n (x ∷ l)
  off_leads n t w = record {
    this = line_other x l n (λ q. no_yes (sym (under l x.0 n later (omega arith)) ∙ w.this)) ∙ w.this;
    none_lower = λ m lt. off_none x l m t (w.none_lower m lt);
  }

  others_none : (m : ℕ) → line (x ∷ l) false m ≡ false → line l false m ≡ false
  others_none m e = go (dec_lt x.0 m)
    where
      go : Dec (x.0 < m) → line l false m ≡ false
      go (yes a) = sym (line_other x l m (λ q. omega arith)) ∙ e
      go (no a) = under l x.0 m later (omega arith)

  others_lead : (n : ℕ) → x.1 ≡ false → Leads n (x ∷ l) → Leads n l
  others_lead n t w = record { this = off_some x l n t w.this; none_lower = λ m lt. others_none m (w.none_lower m lt) }

-- the lowest that applies
pub lowest_leads : (l : Lines) (k n : ℕ) → rising k l ≡ true → 0 < n → lowest l ≡ n → Leads n l
unfolding lowest
lowest_leads [] k n h pos e = absurd (omega arith)
lowest_leads (x ∷ l) k n h pos e =
    cond_pick (λ y. y ≡ n → Leads n (x ∷ l)) x.1 x.0 (lowest l)
    (λ t e. subst (λ (j : ℕ). Leads j (x ∷ l)) e (first_leads x l k h t))
    (λ t e. off_leads x l k h n t (lowest_leads l x.0 n (later x l k h) pos e))
    e

pub leads_lowest : (l : Lines) (k n : ℕ) → rising k l ≡ true → Leads n l → lowest l ≡ n
unfolding lowest
leads_lowest [] k n h w = no_yes (unfold line in w.this)
leads_lowest (x ∷ l) k n h w =
    cond_pick (λ y. y ≡ n) x.1 x.0 (lowest l)
    (λ t. only_first x l k h n t w)
    (λ t. leads_lowest l x.0 n (later x l k h) (others_lead x l k h n t w))

-- none applies
pub lowest_none : (l : Lines) (k : ℕ) → rising k l ≡ true → lowest l ≡ 0 → (n : ℕ) → line l false n ≡ false
unfolding lowest
lowest_none [] k h e n = unfold line in refl
lowest_none (x ∷ l) k h e n =
    cond_pick (λ y. y ≡ 0 → line (x ∷ l) false n ≡ false) x.1 x.0 (lowest l)
    (λ t e. absurd (omega (arith, above x l k h)))
    (λ t e. off_none x l n t (lowest_none l x.0 (later x l k h) e n))
    e

pub none_lowest : (l : Lines) (k : ℕ) → rising k l ≡ true → ((n : ℕ) → line l false n ≡ false) → lowest l ≡ 0
unfolding lowest
none_lowest [] k h none = refl
none_lowest (x ∷ l) k h none =
    let t : x.1 ≡ false = sym (line-here x l) ∙ none x.0 in
    rw t (none_lowest l x.0 (later x l k h) (λ n. others_none x l k h n (none n)))
