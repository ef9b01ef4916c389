-- Laws of the walks outward, one turn at a time, and of the code's lists of actions.
use mathlib.Core.Bool.{Bool, true, false, cond}
use mathlib.Core.List.{List, [], ◌∷◌, ◌++◌}
use mathlib.Core.Path.{◌≡◌, refl, ◌∙◌}
use Prim.Native.Nat.{ℕ, zero, suc, ◌+◌, ◌-◌, ◌≤◌, ◌<◌}
use native.Mathlib.Omega.{arith}
use borrow.Author.Tests.{eq-eqb, ne_eqb}
use lib.Dec.{eqb}
use Rattle.chart.specs.Chart.{path, parent, byte, has_row, flag_of}
use Rattle.chart.specs.Held.{nth_out, pushed, push_all, settled, settling, settled_out}
use Rattle.chart.specs.Step.{first_of, up_to, leave, enter, listed}
use Rattle.chart.specs.declared.step.Acts.{Acts}
use Rattle.chart.specs.declared.step.Out.{Out}
use Rattle.chart.specs.declared.step.Outcome.TheVariants.{Transition}
use Rattle.chart.proofs.Laws.{sub_more, sub_none, path_top, path-cons, path-more, path_done}
use Rattle.chart.specs.Numbers.{levels}

path_none : (d : List ℕ) (k s : ℕ) → k ≡ 0 → path k d s ≡ []
unfolding path
path_none d k s e = rw e

path-suc : (d : List ℕ) (k s : ℕ) → (k ≡ 0 → ⊥) → (s ≡ 0 → ⊥) → path k d s ≡ s ∷ path (k - 1) d (parent d s)
path-suc d k s m n =
    let e : k ≡ suc (k - 1) = omega arith in
    go (k - 1) e
  where
    go : (j : ℕ) → k ≡ suc j → path k d s ≡ s ∷ path j d (parent d s)
    go j q = rw q (path-cons d j s n)

module _ (p : ℕ → Bool) (d : List ℕ) where
  pub first_of_top : (k s : ℕ) → s ≡ 0 → first_of p (path k d s) ≡ 0
  unfolding first_of
  first_of_top k s e = rw (path_top d k s e)

  pub first_of_found : (k s : ℕ) → k < levels → (s ≡ 0 → ⊥) → p s ≡ true → first_of p (path (levels - k) d s) ≡ s
  unfolding first_of
  first_of_found k s h n t = rw (path-more d k s h n, t)

  pub first_of_more : (k s : ℕ) → k < levels → (s ≡ 0 → ⊥) → p s ≡ false → first_of p (path (levels - k) d s) ≡ first_of p (path (levels - (k + 1)) d (parent d s))
  unfolding first_of
  first_of_more k s h n t = rw (path-more d k s h n, t)

  pub first_of_done : (k s : ℕ) → levels ≤ k → first_of p (path (levels - k) d s) ≡ 0
  unfolding first_of
  first_of_done k s h = rw (path_done d k s h)

module _ (d : List ℕ) (l : ℕ) where
  pub leave_top : (k s : ℕ) → s ≡ 0 → leave d (up_to l (path k d s)) ≡ []
  unfolding up_to leave
  leave_top k s e = rw (path_top d k s e)

  pub leave-at : (k s : ℕ) → k < levels → (s ≡ 0 → ⊥) → s ≡ l → leave d (up_to l (path (levels - k) d s)) ≡ []
  unfolding up_to leave
  leave-at k s h n e = rw (path-more d k s h n, eq-eqb s l e)

  pub leave-more : (k s : ℕ) → k < levels → (s ≡ 0 → ⊥) → (s ≡ l → ⊥)
      → leave d (up_to l (path (levels - k) d s)) ≡ listed (byte d s 3) ++ leave d (up_to l (path (levels - (k + 1)) d (parent d s)))
  unfolding up_to leave
  leave-more k s h n e = rw (path-more d k s h n, ne_eqb s l e)

  pub leave_done : (k s : ℕ) → levels ≤ k → leave d (up_to l (path (levels - k) d s)) ≡ []
  unfolding up_to leave
  leave_done k s h = rw (path_done d k s h)

  pub enter_none : (k s : ℕ) → k ≡ 0 → enter d (up_to l (path k d s)) ≡ []
  unfolding up_to enter
  enter_none k s e = rw (path_none d k s e)

  pub enter_top : (k s : ℕ) → s ≡ 0 → enter d (up_to l (path k d s)) ≡ []
  unfolding up_to enter
  enter_top k s e = rw (path_top d k s e)

  pub enter-at : (k s : ℕ) → (k ≡ 0 → ⊥) → (s ≡ 0 → ⊥) → s ≡ l → enter d (up_to l (path k d s)) ≡ []
  unfolding up_to enter
  enter-at k s m n e = rw (path-suc d k s m n, eq-eqb s l e)

  pub enter-more : (k s : ℕ) → (k ≡ 0 → ⊥) → (s ≡ 0 → ⊥) → (s ≡ l → ⊥)
      → enter d (up_to l (path k d s)) ≡ enter d (up_to l (path (k - 1) d (parent d s))) ++ listed (byte d s 2)
  unfolding up_to enter
  enter-more k s m n e = rw (path-suc d k s m n, ne_eqb s l e)

pub push_append : (r : Acts) (l m : List ℕ) → push_all (push_all r l) m ≡ push_all r (l ++ m)
unfolding push_all
push_append r [] m = refl
push_append r (x ∷ l) m = push_append (pushed r x) l m

pub push_none : (r : Acts) (l : List ℕ) → l ≡ [] → push_all r l ≡ r
unfolding push_all
push_none r l e = rw e

-- three pushes are one
pub push_turn : (r : Acts) (a b c : List ℕ) → push_all (push_all (push_all r a) b) c ≡ push_all r (a ++ (b ++ c))
push_turn r a b c = push_append (push_all r a) b c ∙ push_append r a (b ++ c)

up_to_top_go : (s : ℕ) (p : List ℕ) → up_to 0 p ≡ p → (b : Bool) → eqb s 0 ≡ b → up_to 0 (cond b [] (s ∷ p)) ≡ cond b [] (s ∷ p)
unfolding up_to
up_to_top_go s p h true e = refl
up_to_top_go s p h false e = rw (e, h)

-- Row i of those outward from s, one turn of at most k.
module _ (d : List ℕ) (g : ℕ) where
  pub nth_none : (i k s : ℕ) → k ≡ 0 → nth_out d g i (path k d s) ≡ 0
  unfolding nth_out
  nth_none i k s e = rw (path_none d k s e)

  pub nth_top : (i k s : ℕ) → s ≡ 0 → nth_out d g i (path k d s) ≡ 0
  unfolding nth_out
  nth_top i k s e = rw (path_top d k s e)

  pub nth_done : (i k s : ℕ) → levels ≤ k → nth_out d g i (path (levels - k) d s) ≡ 0
  nth_done i k s h = nth_none i (levels - k) s (sub_none k levels h)

  module _ (i k s : ℕ) (m : k ≡ 0 → ⊥) (n : s ≡ 0 → ⊥) where
    pub nth_pass : has_row d g s ≡ false → nth_out d g i (path k d s) ≡ nth_out d g i (path (k - 1) d (parent d s))
    unfolding nth_out
    nth_pass h = rw (path-suc d k s m n, h)

    pub nth_here : has_row d g s ≡ true → i ≡ 0 → nth_out d g i (path k d s) ≡ s
    unfolding nth_out
    nth_here h e = rw (path-suc d k s m n, h, eq-eqb i 0 e)

    pub nth_last : has_row d g s ≡ true → (i ≡ 0 → ⊥) → flag_of d g s ≡ 0 → nth_out d g i (path k d s) ≡ 0
    unfolding nth_out
    nth_last h e f = rw (path-suc d k s m n, h, ne_eqb i 0 e, eq-eqb (flag_of d g s) 0 f)

    pub nth_next : has_row d g s ≡ true → (i ≡ 0 → ⊥) → (flag_of d g s ≡ 0 → ⊥) → nth_out d g i (path k d s) ≡ nth_out d g (i - 1) (path (k - 1) d (parent d s))
    unfolding nth_out
    nth_next h e f = rw (path-suc d k s m n, h, ne_eqb i 0 e, ne_eqb (flag_of d g s) 0 f)

-- Of the levels, k were gone through: one is left, and behind it one fewer.
pub level_left : (k : ℕ) → k < levels → levels - k ≡ 0 → ⊥
level_left k h e = let none : ⊥ = omega arith in none

pub level_less : (k : ℕ) → levels - k - 1 ≡ levels - (k + 1)
level_less k = omega arith

-- Initial transitions, one turn.
module _ (d : List ℕ) where
  -- 0 is on no path
  pub up_to_top : (k s : ℕ) → up_to 0 (path k d s) ≡ path k d s
  unfolding path
  up_to_top zero s = unfold up_to in refl
  up_to_top (suc k) s = up_to_top_go s (path k d (parent d s)) (up_to_top k (parent d s)) (eqb s 0) refl

  pub settled_stop : (k s : ℕ) → byte d s 4 ≡ 0 → settled k d s ≡ s
  unfolding settled
  settled_stop zero s e = refl
  settled_stop (suc k) s e = rw (eq-eqb (byte d s 4) 0 e)

  pub settling_stop : (k s : ℕ) → byte d s 4 ≡ 0 → settling k d s ≡ []
  unfolding settling
  settling_stop zero s e = refl
  settling_stop (suc k) s e = rw (eq-eqb (byte d s 4) 0 e)

  pub settled-suc : (k s : ℕ) → (byte d s 4 ≡ 0 → ⊥) → settled (suc k) d s ≡ settled k d (byte d s 4)
  unfolding settled
  settled-suc k s n = rw (ne_eqb (byte d s 4) 0 n)

  pub settling-suc : (k s : ℕ) → (byte d s 4 ≡ 0 → ⊥)
      → settling (suc k) d s ≡ listed (byte d s 5) ++ (enter d (up_to s (path levels d (byte d s 4))) ++ settling k d (byte d s 4))
  unfolding settling
  settling-suc k s n = rw (ne_eqb (byte d s 4) 0 n)

  pub settled-more : (k s : ℕ) → k < levels → (byte d s 4 ≡ 0 → ⊥) → settled (levels - k) d s ≡ settled (levels - (k + 1)) d (byte d s 4)
  settled-more k s h n = rw (sub_more k levels h) (settled-suc (levels - (k + 1)) s n)

  pub settling-more : (k s : ℕ) → k < levels → (byte d s 4 ≡ 0 → ⊥)
      → settling (levels - k) d s ≡ listed (byte d s 5) ++ (enter d (up_to s (path levels d (byte d s 4))) ++ settling (levels - (k + 1)) d (byte d s 4))
  settling-more k s h n = rw (sub_more k levels h) (settling-suc (levels - (k + 1)) s n)

  pub settled_done : (k s : ℕ) → levels ≤ k → settled (levels - k) d s ≡ s
  unfolding settled
  settled_done k s h = rw (sub_none k levels h)

  pub settling_done : (k s : ℕ) → levels ≤ k → settling (levels - k) d s ≡ []
  unfolding settling
  settling_done k s h = rw (sub_none k levels h)

  pub settled_out_lem : (t x : ℕ) (r q : Acts) → x ≡ settled levels d t → q ≡ push_all r (settling levels d t) → ◌≡◌ {A = Out} (record { next = x; outcome = Transition; acts = q }) (settled_out d t r)
  unfolding settled_out
  settled_out_lem t x r q e f = λ i. record { next = e i; outcome = Transition; acts = f i }
