-- Laws of `settle`, `moved`, `start` and `row_does`, as the code makes them of its parts.
use mathlib.Core.List.{List, ◌++◌, append_assoc, append-nil}
use mathlib.Core.Logic.{⊎_elim}
use mathlib.Core.Path.{◌≡◌, refl, sym, ap, ◌∙◌}
use Prim.Native.Nat.{ℕ, zero, suc, ◌+◌}
use native.Mathlib.Omega.{arith}
use borrow.Author.Tests.{eq-eqb, ne_eqb}
use Rattle.ground.specs.Bools.{eq_or}
use Rattle.chart.specs.Chart.{path, outward, byte, top_target, top_action}
use Rattle.chart.specs.Held.{no_acts, push_all, settled, settling, settled_out, out_of}
use Rattle.chart.specs.Step.{up_to, leave, enter, listed, limit, settle, moved, row_does, start}
use Rattle.chart.specs.declared.step.Out.{Out}
use Rattle.chart.specs.declared.step.Outcome.TheVariants.{Internal}
use Rattle.chart.proofs.Walk.{push_append, up_to_top, settled_stop, settled-suc, settling_stop, settling-suc}
use Rattle.chart.specs.Numbers.{levels}

module _ (d : List ℕ) where
  settle_stop : (k s : ℕ) (l : List ℕ) → byte d s 4 ≡ 0 → settle k d s l ≡ record { next = s; outcome = 2; acts = l }
  unfolding settle
  settle_stop zero s l e = refl
  settle_stop (suc k) s l e = rw (eq-eqb (byte d s 4) 0 e)

  settle-suc : (k s : ℕ) (l : List ℕ) → (byte d s 4 ≡ 0 → ⊥)
      → settle (suc k) d s l ≡ settle k d (byte d s 4) (l ++ (listed (byte d s 5) ++ enter d (up_to s (outward d (byte d s 4)))))
  unfolding settle
  settle-suc k s l n = rw (ne_eqb (byte d s 4) 0 n)

  -- the settling is listed behind what was listed before
  pub settle_is : (k s : ℕ) (l : List ℕ) → settle k d s l ≡ record { next = settled k d s; outcome = 2; acts = l ++ settling k d s }
  settle_is zero s l = unfold settle settled settling in rw append-nil
  settle_is (suc k) s l =
      ⊎_elim
      (λ e. rw (settle_stop (suc k) s l e, settled_stop d (suc k) s e, settling_stop d (suc k) s e, append-nil))
      (λ n.
      rw (settle-suc k s l n, settled-suc d k s n, settling-suc d k s n, settle_is k (byte d s 4) (l ++ (listed (byte d s 5) ++ enter d (up_to s (outward d (byte d s 4))))), append_assoc, append_assoc))
      (eq_or (byte d s 4) 0)

  -- more turns than reach a state without an initial target add nothing
  pub settle_longer : (j k s : ℕ) (l : List ℕ) → byte d (settled k d s) 4 ≡ 0 → settle (j + k) d s l ≡ settle k d s l
  settle_longer j zero s l e = settle_stop (j + 0) s l (unfold settled in e) ∙ sym (settle_stop zero s l (unfold settled in e))
  settle_longer j (suc k) s l e =
      let z : j + suc k ≡ suc (j + k) = omega arith in
      ⊎_elim
      (λ q. settle_stop (j + suc k) s l q ∙ sym (settle_stop (suc k) s l q))
      (λ n. rw (z, settle-suc (j + k) s l n, settle-suc k s l n) (settle_longer j k (byte d s 4) _ (rw (settled-suc d k s n) at e)))
      (eq_or (byte d s 4) 0)

  settle_out : (t : ℕ) (l : List ℕ) → out_of (settle levels d t l) ≡ settled_out d t (push_all no_acts l)
  unfolding out_of settled_out
  settle_out t l = rw (settle_is levels t l, push_append no_acts l (settling levels d t))

  pub moved_out : (x s t a l : ℕ) → l ≡ limit d s t
      → settled_out d t (push_all (push_all (push_all (push_all no_acts (listed a)) (leave d (up_to s (path levels d x)))) (leave d (up_to l (path levels d s)))) (enter d (up_to l (path levels d t))))
      ≡ out_of (moved d x s t a)
  unfolding moved
  moved_out x s t a l e = rw (e) (ap (settled_out d t) (push_append _ _ _ ∙ push_append _ _ _ ∙ push_append _ _ _) ∙ sym (settle_out t _))

  -- a transition lists its action first, then what it lists without one
  pub action_first : (x s t a : ℕ) → (moved d x s t a).acts ≡ listed a ++ (moved d x s t 0).acts
  unfolding moved listed
  action_first x s t a = ap (λ r. r.acts) (settle_is levels t _) ∙ append_assoc (listed a) _ _ ∙ sym (ap (λ r. listed a ++ r.acts) (settle_is levels t _))

  pub start_out : settled_out d (top_target d) (push_all (push_all no_acts (listed (top_action d))) (enter d (up_to 0 (path levels d (top_target d))))) ≡ out_of (start d)
  unfolding start
  start_out = rw (up_to_top d levels (top_target d)) (ap (settled_out d (top_target d)) (push_append _ _ _) ∙ sym (settle_out (top_target d) _))

  pub does_internal : (x s i : ℕ) → byte d i 3 ≡ 0 → ◌≡◌ {A = Out} (record { next = x; outcome = Internal; acts = push_all no_acts (listed (byte d i 5)) }) (out_of (row_does d x s i))
  unfolding out_of row_does
  does_internal x s i z = rw (eq-eqb (byte d i 3) 0 z)

  pub does-moved : (x s i : ℕ) → (byte d i 3 ≡ 0 → ⊥) → out_of (moved d x s (byte d i 4) (byte d i 5)) ≡ out_of (row_does d x s i)
  unfolding out_of row_does
  does-moved x s i z = rw (ne_eqb (byte d i 3) 0 z)
