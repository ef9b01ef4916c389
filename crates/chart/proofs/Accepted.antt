-- What an accepted chart has: its states lie at most six deep, initial targets lie below, rows name states. From this, that a step lists at
-- most 18 actions and ends in a state, and that the bounds of the definitions cut nothing off.
use mathlib.Core.Bool.{Bool, true, false, cond, not, ◌&&◌, ◌||◌}
use mathlib.Core.List.{List, [], ◌∷◌, ◌++◌}
use mathlib.Core.Logic.{⊎_elim}
use mathlib.Core.Path.{◌≡◌, refl, sym, ap, ◌∙◌}
use Prim.Native.Nat.{ℕ, zero, suc, ◌+◌, ◌-◌, ◌*◌, ◌%◌, ◌≤◌, ◌<◌}
use native.Mathlib.Nat.{le_refl}
use native.Mathlib.Omega.{arith}
use borrow.Author.Tests.{eq-eqb, ne_eqb, eqb-true, eqb-false, le-leb, leb-true, leb-false, ltb-true, not-true}
use lib.Dec.{eqb, leb, ltb}
use lib.ListN.{length, get_or, length-append}
use Rattle.ground.specs.Bools.{no_yes, and_left, and_right, or_right, cond_pick, cond_all, cond_else, eq_or}
use Rattle.ground.specs.Every.{every-at}
use Rattle.ground.specs.Range.{every}
use Rattle.ground.specs.Search.{first_is}
use Rattle.chart.specs.Chart.{class_of, length_ok, forms_ok, tree_ok, rows_ok, states, records, form_ok, parent_ok, state_ok, row_ok, among, is_signal, path, outward, parent, has, byte, row_for, has_row, flag_of, record_at, key, top_target, top_action}
use Rattle.chart.specs.Flags.{Flags}
use Rattle.chart.specs.Held.{form_at, kind_at, key_before, nth_out, state_at, row_good, open_row, up, within, target_ok, settled, settling}
use Rattle.chart.specs.Step.{Answer, ignored, up_to, leave, enter, listed, first_of, source, limit, settle, moved, row_does, answer_by, step, start}
use Rattle.chart.proofs.Laws.{path_top, path-cons, level_same}
use Rattle.chart.proofs.Steps.{settle_is}
use Rattle.chart.proofs.Walk.{settled_stop, settled-suc, settling_stop, settling-suc}
use Rattle.chart.specs.Numbers.{Edition, Plain, Guarded, longest, levels, first_signal, last_signal, most_states, most_flag, most_actions}

-- ## Accepted
pub record Accepted (e : Edition) (d : List ℕ) : Type 0 where
  pub fits : length_ok d ≡ true
  pub forms : forms_ok e (states d) d ≡ true
  pub tree : tree_ok (states d) d ≡ true
  pub rows : rows_ok e (states d) d ≡ true

class_go : (a b c e : Bool) → ◌≡◌ {A = ℕ} (cond a (cond b (cond c (cond e 0 4) 3) 2) 1) 0 → (a ≡ true) × (b ≡ true) × (c ≡ true) × (e ≡ true)
class_go true true true true q = (refl, refl, refl, refl)
class_go true true true false q = absurd (omega arith)
class_go true true false e q = absurd (omega arith)
class_go true false c e q = absurd (omega arith)
class_go false b c e q = absurd (omega arith)

pub accepted : (e : Edition) (d : List ℕ) → class_of e d ≡ 0 → Accepted e d
unfolding class_of
accepted e d z =
    let h = class_go (length_ok d) (forms_ok e (states d) d) (tree_ok (states d) d) (rows_ok e (states d) d) z in
    record { fits = h.0; forms = h.1; tree = h.2; rows = h.3 }

pub among_of : (n s : ℕ) → among n s ≡ true → (1 ≤ s) × (s ≤ n)
unfolding among
among_of n s e = (leb-true 1 s (and_left (leb 1 s) (leb s n) e), leb-true s n (and_right (leb 1 s) (leb s n) e))

pub signal_of_lem : (g : ℕ) → is_signal g ≡ true → (first_signal ≤ g) × (g ≤ last_signal)
unfolding is_signal
signal_of_lem g e = (leb-true first_signal g (and_left (leb first_signal g) (leb g last_signal) e), leb-true g last_signal (and_right (leb first_signal g) (leb g last_signal) e))

pub size_of : (d : List ℕ) → length_ok d ≡ true → length d ≤ longest
unfolding length_ok
size_of d e = leb-true (length d) longest (and_right (eqb (length d % 8) 0) _ (and_right (not (eqb (length d) 0)) _ e))

pub few : (e : Edition) (n : ℕ) (d : List ℕ) → forms_ok e n d ≡ true → (1 ≤ n) × (n ≤ most_states e)
unfolding forms_ok
few e n d h = among_of (most_states e) n (and_right (every (form_at e n d) 0 (records d)) _ h)

pub few_states : (e : Edition) (d : List ℕ) → class_of e d ≡ 0 → states d ≤ most_states e
few_states e d z = (few e (states d) d (accepted e d z).forms).1

-- those of a plain chart are the most
pub at_most : (e : Edition) (n : ℕ) (d : List ℕ) → forms_ok e n d ≡ true → n ≤ most_states Plain
at_most e n d h = omega (arith, (few e n d h).1, most e)
  where
    most : (e : Edition) → most_states e ≤ most_states Plain
    most Plain = omega arith
    most Guarded = omega arith

-- a class is one of 0 to 4
pub class_most : (e : Edition) (d : List ℕ) → class_of e d ≤ 4
unfolding class_of
class_most e d =
    cond_all low (length_ok d)
    (cond_all low (forms_ok e (states d) d)
    (cond_all low (tree_ok (states d) d) (cond_all low (rows_ok e (states d) d) (omega arith) (omega arith)) (omega arith)) (omega arith)) (omega arith)
  where
    low : ℕ → Type 0
    low n = n ≤ 4

-- ## Going outward
module _ (d : List ℕ) where
  up-parent : (k s : ℕ) → up (suc k) d s ≡ parent d (up k d s)
  unfolding up
  up-parent zero s = refl
  up-parent (suc k) s = up-parent k (parent d s)

  up_stays : (k s : ℕ) → up k d s ≡ 0 → up (suc k) d s ≡ 0
  unfolding parent
  up_stays k s e = up-parent k s ∙ ap (parent d) e

  path_stays : (k s : ℕ) → up k d s ≡ 0 → path (suc k) d s ≡ path k d s
  path_stays zero s e = unfold up path in rw (eq-eqb s 0 e)
  path_stays (suc k) s e =
      ⊎_elim
      (λ z. path_top d (suc (suc k)) s z ∙ sym (path_top d (suc k) s z))
      (λ n. rw (path-cons d (suc k) s n, path-cons d k s n, path_stays k (parent d s) (unfold up in e)))
      (eq_or s 0)

  -- more turns than reach the top add nothing
  pub path_longer : (j k s : ℕ) → up k d s ≡ 0 → path (j + k) d s ≡ path k d s
  path_longer zero k s e = let z : 0 + k ≡ k = omega arith in rw z refl
  path_longer (suc j) k s e =
      let z : suc j + k ≡ suc (j + k) = omega arith in
      rw z (path_stays (j + k) s (up_longer j k s e) ∙ path_longer j k s e)
    where
      up_longer : (j k s : ℕ) → up k d s ≡ 0 → up (j + k) d s ≡ 0
      up_longer zero k s e = let z : 0 + k ≡ k = omega arith in rw z e
      up_longer (suc j) k s e = let z : suc j + k ≡ suc (j + k) = omega arith in rw z (up_stays (j + k) s (up_longer j k s e))

  -- the way outward from a state that lies at most six deep, with no bound
  outward-cons : (s : ℕ) → (s ≡ 0 → ⊥) → up levels d s ≡ 0 → outward d s ≡ s ∷ outward d (parent d s)
  outward-cons s n e = path-cons d 5 s n ∙ ap (λ p. s ∷ p) (sym (path_stays 5 (parent d s) (unfold up in e)))

  pub path-length : (k s : ℕ) → length (path k d s) ≤ k
  path-length zero s = unfold path in le_refl 0
  path-length (suc k) s =
      ⊎_elim
      (λ z. rw (path_top d (suc k) s z) (omega arith))
      (λ n. rw (path-cons d k s n) (let h = path-length k (parent d s) in omega arith))
      (eq_or s 0)

  has-nil : (x : ℕ) {A : Type 0} → has x [] ≡ true → A
  unfolding has
  has-nil x e = no_yes e

  has-later : (x s : ℕ) (p : List ℕ) → (s ≡ x → ⊥) → has x (s ∷ p) ≡ true → has x p ≡ true
  unfolding has
  has-later x s p n e = rw (ne_eqb s x n) at e

  -- x is on the way outward from s: it is s, or further on
  on-path : {P : Type 0} (k x s : ℕ) → has x (path (suc k) d s) ≡ true
      → ((s ≡ 0 → ⊥) → s ≡ x → P)
      → ((s ≡ 0 → ⊥) → (s ≡ x → ⊥) → has x (path k d (parent d s)) ≡ true → P)
      → P
  on-path k x s h here later =
      ⊎_elim
      (λ z. has-nil x (rw (path_top d (suc k) s z) at h))
      (λ n. ⊎_elim (here n) (λ q. later n q (has-later x s (path k d (parent d s)) q (rw (path-cons d k s n) at h))) (eq_or s x))
      (eq_or s 0)

  -- what contains a state that lies at most k deep lies so too
  up_of : (k x s : ℕ) → up k d s ≡ 0 → has x (path k d s) ≡ true → up k d x ≡ 0
  up_of zero x s e h = unfold path in has-nil x h
  up_of (suc k) x s e h = on-path k x s h (λ n q. rw (← q) e) (λ n q g. up_stays k x (up_of k x (parent d s) (unfold up in e) g))

  up_to_at : (x s : ℕ) (p : List ℕ) → s ≡ x → up_to x (s ∷ p) ≡ []
  unfolding up_to
  up_to_at x s p e = rw (eq-eqb s x e)

  up_to_more : (x s : ℕ) (p : List ℕ) → (s ≡ x → ⊥) → up_to x (s ∷ p) ≡ s ∷ up_to x p
  unfolding up_to
  up_to_more x s p n = rw (ne_eqb s x n)

  -- the states below x on the way from s, and those from x on, are all
  depth_from : (k x s : ℕ) → up k d s ≡ 0 → has x (path k d s) ≡ true → length (up_to x (path k d s)) + length (path k d x) ≡ length (path k d s)
  depth_from zero x s e h = unfold path in has-nil x h
  depth_from (suc k) x s e h =
      on-path k x s h
      (λ n q. let r : s ≡ x = q in rw (← r, path-cons d k s n, up_to_at s s (path k d (parent d s)) refl) (omega arith))
      (λ n q g.
      let ih = depth_from k x (parent d s) (unfold up in e) g in
      let st = path_stays k x (up_of k x (parent d s) (unfold up in e) g) in
      rw (path-cons d k s n, up_to_more x s (path k d (parent d s)) q, st) (omega arith))

  depth_of_lem : (x s : ℕ) → up levels d s ≡ 0 → has x (outward d s) ≡ true → length (up_to x (outward d s)) + length (outward d x) ≡ length (outward d s)
  depth_of_lem x s e h = depth_from levels x s e h

  -- ## Lengths
  listed-length : (a : ℕ) → length (listed a) ≤ 1
  unfolding listed
  listed-length a = cond_pick (λ (l : List ℕ). length l ≤ 1) (eqb a 0) [] (a ∷ []) (λ e. omega arith) (λ e. omega arith)

  leave-length : (p : List ℕ) → length (leave d p) ≤ length p
  unfolding leave
  leave-length [] = le_refl 0
  leave-length (s ∷ p) = rw (length-append (listed (byte d s 3)) (leave d p)) (omega (arith, listed-length (byte d s 3), leave-length p))

  enter-length : (p : List ℕ) → length (enter d p) ≤ length p
  unfolding enter
  enter-length [] = le_refl 0
  enter-length (s ∷ p) = rw (length-append (enter d p) (listed (byte d s 2))) (omega (arith, listed-length (byte d s 2), enter-length p))

  up_to_length : (x : ℕ) (p : List ℕ) → length (up_to x p) ≤ length p
  up_to_length x [] = unfold up_to in le_refl 0
  up_to_length x (s ∷ p) =
      ⊎_elim
      (λ q. rw (up_to_at x s p q) (omega arith))
      (λ q. rw (up_to_more x s p q) (let h = up_to_length x p in omega arith))
      (eq_or s x)

-- ## The states of an accepted chart, and what an answer is that rests in one
pub record State (d : List ℕ) (s : ℕ) : Type 0 where
  pub low : 1 ≤ s
  pub high : s ≤ states d

pub record Good (d : List ℕ) (r : Answer) : Type 0 where
  pub few : length r.acts ≤ most_actions
  pub rests : State d r.next
  pub outcome : r.outcome ≤ 2

pub state_of_lem : (d : List ℕ) (s : ℕ) → among (states d) s ≡ true → State d s
state_of_lem d s e = let h = among_of (states d) s e in record { low = h.0; high = h.1 }

pub is_state : (d : List ℕ) (s : ℕ) → State d s → among (states d) s ≡ true
unfolding among
is_state d s h = rw (le-leb 1 s h.low, le-leb s (states d) h.high)

module _ {e : Edition} (d : List ℕ) (acc : Accepted e d) where
  state_ok_lem : (s : ℕ) → State d s → state_at (states d) d s ≡ true
  unfolding tree_ok
  state_ok_lem s h =
      let u = h.high in
      every-at (state_at (states d) d) 1 (states d + 1) s (and_right (among (states d) (top_target d)) _ acc.tree) h.low (omega arith)

  pub top_state : State d (top_target d)
  unfolding tree_ok
  top_state = state_of_lem d (top_target d) (and_left (among (states d) (top_target d)) (every (state_at (states d) d) 1 (states d + 1)) acc.tree)

  pub state-up : (s : ℕ) → State d s → up levels d s ≡ 0
  unfolding state_ok
  state-up s h =
      eqb-true (up levels d s) 0
      (level_same d levels s ∙ and_left (leb (length (path (suc levels) d s)) levels) _ (and_right (parent_ok d s (get_or (record_at d s) 1 0)) _ (state_ok_lem s h)))

  initial_in : (s : ℕ) → State d s → (byte d s 4 ≡ 0 → ⊥) → within (states d) d s (byte d s 4) ≡ true
  unfolding state_ok byte
  initial_in s h n =
      cond_else (eqb (get_or (record_at d s) 4 0) 0) _ _ (ne_eqb _ _ n)
      (and_right (leb (length (path (suc levels) d s)) levels) _ (and_right (parent_ok d s (get_or (record_at d s) 1 0)) _ (state_ok_lem s h)))

  initial-state : (s : ℕ) → State d s → (byte d s 4 ≡ 0 → ⊥) → State d (byte d s 4)
  initial-state s h n = state_of_lem d (byte d s 4) (and_left (among (states d) (byte d s 4)) _ (initial_in s h n))

  not_top : (s : ℕ) → State d s → s ≡ 0 → ⊥
  not_top s h e = let g = h.low in omega arith

  state-cons : (s : ℕ) → State d s → outward d s ≡ s ∷ outward d (parent d s)
  state-cons s h = outward-cons d s (not_top s h) (state-up s h)

  -- s lies less deep than its initial target, by the entries between
  initial_deeper : (s : ℕ) → State d s → (byte d s 4 ≡ 0 → ⊥)
      → (length (up_to s (outward d (byte d s 4))) + length (outward d s) ≡ length (outward d (byte d s 4))) × (length (outward d s) < length (outward d (byte d s 4)))
  initial_deeper s h n =
      let t = byte d s 4 in
      let g = initial-state s h n in
      let u : up 5 d (parent d t) ≡ 0 = unfold up in state-up t g in
      let v : up levels d (parent d t) ≡ 0 = up_stays d 5 (parent d t) u in
      let i = and_right (among (states d) t) (has s (outward d (parent d t))) (initial_in s h n) in
      let e = state-cons t g in
      let f : has s (outward d t) ≡ true = rw e (unfold has in or_right (eqb t s) (has s (outward d (parent d t))) i) in
      let l : length (outward d t) ≡ suc (length (outward d (parent d t))) = ap length e in
      (depth_of_lem d s t (state-up t g) f, omega (arith, depth_of_lem d s (parent d t) v i))

  settling_bound : (k s : ℕ) → State d s → length (settling k d s) + 2 * length (outward d s) ≤ 12
  settling_bound zero s h = unfold settling in omega (arith, path-length d levels s)
  settling_bound (suc k) s h =
      ⊎_elim
      (λ e. rw (settling_stop d (suc k) s e) (omega (arith, path-length d levels s)))
      (λ n.
      let t = byte d s 4 in
      let ih = settling_bound k t (initial-state s h n) in
      let w = initial_deeper s h n in
      let a = listed-length d (byte d s 5) in
      let b = enter-length d (up_to s (outward d t)) in
      rw (settling-suc d k s n, length-append (listed (byte d s 5)) (enter d (up_to s (outward d t)) ++ settling k d t), length-append (enter d (up_to s (outward d t))) (settling k d t))
      (omega (arith, w.0, w.1)))
      (eq_or (byte d s 4) 0)

  pub settled-state : (k s : ℕ) → State d s → State d (settled k d s)
  settled-state zero s h = unfold settled in h
  settled-state (suc k) s h =
      ⊎_elim
      (λ e. rw (settled_stop d (suc k) s e) h)
      (λ n. rw (settled-suc d k s n) (settled-state k (byte d s 4) (initial-state s h n)))
      (eq_or (byte d s 4) 0)

  -- what contains a state is lower, and has an initial target if it is a state
  parent_ok_lem : (s : ℕ) → State d s → parent_ok d s (parent d s) ≡ true
  unfolding state_ok byte parent
  parent_ok_lem s h = rw (ne_eqb s 0 (not_top s h)) (and_left (parent_ok d s (get_or (record_at d s) 1 0)) _ (state_ok_lem s h))

  pub parent_low : (s : ℕ) → State d s → parent d s < s
  unfolding parent_ok
  parent_low s h = ltb-true (parent d s) s (and_left (ltb (parent d s) s) _ (parent_ok_lem s h))

  pub parent_starts : (s : ℕ) → State d s → (parent d s ≡ 0 → ⊥) → byte d (parent d s) 4 ≡ 0 → ⊥
  unfolding parent_ok
  parent_starts s h n =
      let p = parent d s in
      eqb-false (byte d p 4) 0 (not-true (eqb (byte d p 4) 0) (rw (ne_eqb p 0 n) at (and_right (ltb p s) _ (parent_ok_lem s h))))

  -- ## Rows
  kind_go : (a b : Bool) → ◌≡◌ {A = ℕ} (cond a 3 (cond b 1 2)) 2 → b ≡ false
  kind_go true b e = absurd (omega arith)
  kind_go false true e = absurd (omega arith)
  kind_go false false e = refl

  -- the row of a state and a signal, where there is one, is a good one
  row_good_lem : (s g : ℕ) → row_for d s g < records d → row_good e (states d) d (row_for d s g) ≡ true
  unfolding row_for forms_ok rows_ok form_ok byte
  row_good_lem s g r =
      let i = row_for d s g in
      let p : ℕ → Bool = λ j. eqb (byte d j 0) 2 && (eqb (byte d j 1) s && eqb (byte d j 2) g) in
      let f = (first_is p 0 (records d)).passes (omega arith) in
      let k = eqb-true (get_or (record_at d i) 0 0) 2 (and_left (eqb (get_or (record_at d i) 0 0) 2) _ f) in
      let m = every-at (form_at e (states d) d) 0 (records d) i (and_left (every (form_at e (states d) d) 0 (records d)) _ acc.forms) (omega arith) r in
      let q = eqb-true (get_or (record_at d i) 0 0) (kind_at (states d) i) (and_left (eqb (get_or (record_at d i) 0 0) (kind_at (states d) i)) _ m) in
      let l = leb-false i (states d) (kind_go (eqb i 0) (leb i (states d)) (sym q ∙ k)) in
      every-at (row_good e (states d) d) (states d + 1) (records d) i acc.rows (omega arith) r

  -- its target is a state, and its flag one of the edition's
  module _ (s g : ℕ) (n : has_row d g s ≡ true) where
    abbrev r : List ℕ
    r = record_at d (row_for d s g)

    row-rest : (target_ok (states d) (get_or r 3 0) (get_or r 4 0) && (leb (get_or r 6 0) (most_flag e) && ltb (key_before (states d) d (row_for d s g)) (key r))) ≡ true
    unfolding row_ok
    row-rest = and_right (is_signal (get_or r 2 0)) _ (and_right (among (states d) (get_or r 1 0)) _ (row_good_lem s g (ltb-true _ _ n)))

    row_target : (byte d (row_for d s g) 3 ≡ 0 → ⊥) → State d (byte d (row_for d s g) 4)
    unfolding byte
    row_target z =
        let t = and_left (target_ok (states d) (get_or r 3 0) (get_or r 4 0)) _ row-rest in
        state_of_lem d (get_or r 4 0) (and_right (eqb (get_or r 3 0) 1) _ (cond_else (eqb (get_or r 3 0) 0) _ _ (ne_eqb (get_or r 3 0) 0 z) t))

    pub row-flag : flag_of d g s ≤ most_flag e
    unfolding byte
    row-flag = leb-true (get_or r 6 0) (most_flag e) (and_left (leb (get_or r 6 0) (most_flag e)) _ (and_right (target_ok (states d) (get_or r 3 0) (get_or r 4 0)) _ row-rest))

  -- ## Steps
  -- the first that passes is on the way outward
  first_has : (p : ℕ → Bool) (l : List ℕ) → (first_of p l ≡ 0 → ⊥) → (p (first_of p l) ≡ true) × (has (first_of p l) l ≡ true)
  unfolding first_of has
  first_has p [] n = absurd (n refl)
  first_has p (s ∷ l) n =
      cond_pick (λ (r : ℕ). (r ≡ 0 → ⊥) → (p r ≡ true) × ((eqb s r || has r l) ≡ true)) (p s) s (first_of p l)
      (λ e z. (e, rw (eq-eqb s s refl)))
      (λ e z. let h = first_has p l z in (h.0, or_right (eqb s (first_of p l)) _ h.1))
      n

  pub nth_has : (g : ℕ) (l : List ℕ) (i : ℕ) → (nth_out d g i l ≡ 0 → ⊥) → (has_row d g (nth_out d g i l) ≡ true) × (has (nth_out d g i l) l ≡ true)
  unfolding nth_out has
  nth_has g [] i n = absurd (n refl)
  nth_has g (s ∷ l) i n =
      cond_pick Found (has_row d g s) _ _
      (λ q.
      cond_pick Found (eqb i 0) s _ (λ z m. (q, rw (eq-eqb s s refl)))
      (λ z. cond_pick Found (eqb (flag_of d g s) 0) 0 _ (λ f m. absurd (m refl)) (λ f m. later _ (nth_has g l (i - 1) m))))
      (λ q m. later _ (nth_has g l i m))
      n
    where
      Found : ℕ → Type 0
      Found r = (r ≡ 0 → ⊥) → (has_row d g r ≡ true) × ((eqb s r || has r l) ≡ true)

      later : (r : ℕ) → (has_row d g r ≡ true) × (has r l ≡ true) → (has_row d g r ≡ true) × ((eqb s r || has r l) ≡ true)
      later r w = (w.0, or_right (eqb s r) _ w.1)

  -- initial transitions from a state t, behind what was listed before
  settle_good : (t : ℕ) (l : List ℕ) → State d t → length (l ++ settling levels d t) ≤ most_actions → Good d (settle levels d t l)
  settle_good t l h b = rw (settle_is d levels t l) (record { few = b; rests = settled-state levels t h; outcome = omega arith })

  moved_good : (x s t a : ℕ) → State d x → has s (outward d x) ≡ true → State d t → Good d (moved d x s t a)
  unfolding moved
  moved_good x s t a h i g =
      let l = limit d s t in
      let p = listed a in
      let q = leave d (up_to s (outward d x)) in
      let r = leave d (up_to l (outward d s)) in
      let u = enter d (up_to l (outward d t)) in
      let v = settling levels d t in
      let e0 = length-append (p ++ (q ++ (r ++ u))) v in
      let e1 = length-append p (q ++ (r ++ u)) in
      let e2 = length-append q (r ++ u) in
      let e3 = length-append r u in
      let b1 = leave-length d (up_to s (outward d x)) in
      let b2 = leave-length d (up_to l (outward d s)) in
      let b3 = up_to_length d l (outward d s) in
      let b4 = listed-length d a in
      let b5 = enter-length d (up_to l (outward d t)) in
      let b6 = up_to_length d l (outward d t) in
      let b7 = settling_bound levels t g in
      let b8 : length (outward d t) ≡ suc (length (outward d (parent d t))) = ap length (state-cons t g) in
      let b9 = depth_of_lem d s x (state-up x h) i in
      settle_good t (p ++ (q ++ (r ++ u))) g (omega (arith, path-length d levels x))

  pub start_good : Good d (start d)
  unfolding start
  start_good =
      let t = top_target d in
      let l = listed (top_action d) ++ enter d (outward d t) in
      let e1 = length-append l (settling levels d t) in
      let e2 = length-append (listed (top_action d)) (enter d (outward d t)) in
      let b1 = listed-length d (top_action d) in
      let b2 = enter-length d (outward d t) in
      let b3 = settling_bound levels t top_state in
      settle_good t l top_state (omega (arith, path-length d levels t))

  pub ignored_good : (x : ℕ) → State d x → Good d (ignored x)
  ignored_good x h = record { few = omega arith; rests = h; outcome = omega arith }

  -- what holds of each kind of answer holds of what the row of a state does, and of a step
  row_cases : (P : Answer → Type 0) (x g s : ℕ) → has_row d g s ≡ true
      → P (ignored x)
      → ((i : ℕ) → P (record { next = x; outcome = 1; acts = listed (byte d i 5) }))
      → ((t a : ℕ) → State d t → P (moved d x s t a))
      → P (answer_by d x g s)
  unfolding answer_by row_does
  row_cases P x g s r f0 f1 f2 =
      let i = row_for d s g in
      cond_pick P (eqb s 0) _ _ (λ q. f0)
      (λ q. cond_pick P (eqb (byte d i 3) 0) _ _ (λ z. f1 i) (λ z. f2 (byte d i 4) (byte d i 5) (row_target s g r (eqb-false _ 0 z))))

  pub step_cases : (P : Answer → Type 0) (is_up : Flags) (x g : ℕ)
      → P (ignored x)
      → ((i : ℕ) → P (record { next = x; outcome = 1; acts = listed (byte d i 5) }))
      → ((s t a : ℕ) → has s (outward d x) ≡ true → State d t → P (moved d x s t a))
      → P (step d is_up x g)
  unfolding step
  step_cases P is_up x g f0 f1 f2 =
      let s = source d is_up x g in
      ⊎_elim
      (λ z. rw z (unfold answer_by in f0))
      (λ n.
      let w = first_has (open_row d is_up g) (outward d x) n in
      row_cases P x g s (and_left (has_row d g s) _ w.0) f0 f1 (λ t a k. f2 s t a w.1 k))
      (eq_or s 0)

  internal_good : (x : ℕ) → State d x → (i : ℕ) → Good d (record { next = x; outcome = 1; acts = listed (byte d i 5) })
  internal_good x h i = record { few = omega (arith, listed-length d (byte d i 5)); rests = h; outcome = omega arith }

  pub row-answer : (x g s : ℕ) → State d x → has s (outward d x) ≡ true → has_row d g s ≡ true → Good d (answer_by d x g s)
  row-answer x g s h i r = row_cases (Good d) x g s r (ignored_good x h) (internal_good x h) (λ t a k. moved_good x s t a h i k)

  pub step_good : (is_up : Flags) (x g : ℕ) → State d x → Good d (step d is_up x g)
  step_good is_up x g h = step_cases (Good d) is_up x g (ignored_good x h) (internal_good x h) (λ s t a i k. moved_good x s t a h i k)

  -- ## What the bounds of the definitions do not cut off
  settled_ends_from : (k s : ℕ) → State d s → levels ≤ k + length (outward d s) → byte d (settled k d s) 4 ≡ 0
  settled_ends_from zero s h b =
      ⊎_elim
      (λ e. rw (settled_stop d zero s e) e)
      (λ n. absurd (omega (arith, (initial_deeper s h n).1, path-length d levels (byte d s 4))))
      (eq_or (byte d s 4) 0)
  settled_ends_from (suc k) s h b =
      ⊎_elim
      (λ e. rw (settled_stop d (suc k) s e) e)
      (λ n. rw (settled-suc d k s n) (settled_ends_from k (byte d s 4) (initial-state s h n) (omega (arith, (initial_deeper s h n).1))))
      (eq_or (byte d s 4) 0)

  -- six turns are enough: the state reached has no initial target
  pub settled_ends : (s : ℕ) → State d s → byte d (settled levels d s) 4 ≡ 0
  settled_ends s h = settled_ends_from levels s h (omega arith)
