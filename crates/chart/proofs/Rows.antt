-- Laws of a row's bytes and of the slot, row by row: as the code writes them, and as they are read.
use mathlib.Core.Bool.{Bool, true, false, cond}
use mathlib.Core.List.{List, [], ◌∷◌, ◌++◌, append_assoc, append-nil}
use mathlib.Core.Logic.{⊎_elim}
use mathlib.Core.Path.{◌≡◌, refl, sym, ap, ◌∙◌}
use Prim.Native.Nat.{ℕ, zero, suc, ◌+◌, ◌-◌, ◌*◌, ◌/◌, ◌%◌, ◌≤◌, ◌<◌}
use native.Mathlib.Nat.{le_refl}
use native.Mathlib.Omega.{arith}
use borrow.Author.Tests.{le-leb, lt-leb, eq-eqb, ne_eqb}
use borrow.Rule.Slice.PartMut.{put_mid}
use lib.Dec.{eqb, leb}
use lib.ListN.{length, get_or, take, drop, replicate, length-append, length-drop, drop_of_length-le}
use lib.Seq.{drop-drop, drop_at, take_at, set-append_seam}
use Rattle.ground.specs.Bools.{cond_pick, eq_or}
use Rattle.ground.specs.Parts.{tail_part}
use Rattle.ground.specs.Bytes.{padded}
use Rattle.ground.specs.Padding.{length-padded, padded_short}
use Rattle.chart.specs.Chart.{states, has_row, flag_of, outward, parent, path}
use Rattle.chart.specs.Flat.{row_of, rows_out, behind, row_no, rows_from, slot_bytes}
use Rattle.chart.specs.Held.{nth_out, outcome_number, outcome_of, pushed, push_all, out_of, row_bytes, row_or}
use Rattle.chart.specs.Numbers.{Edition, Plain, Guarded, each, first_signal, levels, most_actions, row_count, row_size, signal_count, slot_size}
use Rattle.chart.specs.Step.{Answer, answer_by, start}
use Rattle.chart.specs.declared.step.Acts.{Acts}
use Rattle.chart.proofs.Laws.{path_top, path-cons}

-- ## The code's row of an answer is the answer's row
-- the list l as the code holds it
held : List ℕ → Acts
held l = record { count = length l; list = l ++ replicate (most_actions - length l) 0 }

held_push : (l : List ℕ) (x : ℕ) → length l < most_actions → pushed (held l) x ≡ held (l ++ (x ∷ []))
unfolding held pushed
held_push l x h =
    let e : most_actions - length l ≡ suc (most_actions - (length l + 1)) = omega arith in
    let f : length (l ++ (x ∷ [])) ≡ length l + 1 = length-append l (x ∷ []) in
    rw (lt-leb most_actions (length l) h, e, f, append_assoc)
    (ap (λ b. record { count = length l + 1; list = b }) (set-append_seam l 0 (replicate (most_actions - (length l + 1)) 0) x))

held_all : (l m : List ℕ) → length l + length m ≤ most_actions → push_all (held l) m ≡ held (l ++ m)
unfolding push_all
held_all l [] h = ap held (sym (append-nil l))
held_all l (x ∷ m) h =
    ap (λ r. push_all r m) (held_push l x (omega arith))
    ∙ held_all (l ++ (x ∷ [])) m (omega (arith, length-append l (x ∷ [])))
    ∙ ap held (append_assoc l (x ∷ []) m)

outcome_same : (n : ℕ) → n ≤ 2 → outcome_number (outcome_of n) ≡ n
outcome_same zero h = refl
outcome_same (suc zero) h = refl
outcome_same (suc (suc zero)) h = refl
outcome_same (suc (suc (suc n))) h = absurd (omega arith)

pub row_same : (f : ℕ) (r : Answer) → length r.acts ≤ most_actions → r.outcome ≤ 2 → row_bytes (record { flag = f; out = out_of r }) ≡ row_of f r
unfolding row_bytes out_of row_of held
row_same f r h g = rw (held_all [] r.acts (omega arith), padded_short most_actions r.acts h, outcome_same r.outcome g)

-- ## The slot, row by row
pub row-length : (f : ℕ) (r : Answer) → length (row_of f r) ≡ row_size
unfolding row_of
row-length f r = rw (length-append (padded most_actions r.acts) (f ∷ 0 ∷ 0 ∷ []), length-padded most_actions r.acts)

behind-length : (e : Edition) (x : ℕ) → length (behind e x) ≡ row_size
unfolding behind
behind-length Plain x = row-length 0 _
behind-length Guarded x = refl

out_length : (d : List ℕ) (x g : ℕ) (p : List ℕ) (i : ℕ) (b : List ℕ) → length b ≡ row_size → length (get_or (rows_out d x g p) i b) ≡ row_size
unfolding rows_out
out_length d x g [] i b h = h
out_length d x g (s ∷ p) zero b h =
    cond_pick (λ (l : List (List ℕ)). length (get_or l 0 b) ≡ row_size) (has_row d g s) _ _ (λ q. row-length (flag_of d g s) (answer_by d x g s)) (λ q. out_length d x g p 0 b h)
out_length d x g (s ∷ p) (suc i) b h =
    cond_pick (λ (l : List (List ℕ)). length (get_or l (suc i) b) ≡ row_size) (has_row d g s) _ _
    (λ q. cond_pick (λ (l : List (List ℕ)). length (get_or l i b) ≡ row_size) (eqb (flag_of d g s) 0) _ _ (λ z. h) (λ z. out_length d x g p i b h))
    (λ q. out_length d x g p (suc i) b h)

pub slot-end : (e : Edition) → slot_size e ≡ row_size * row_count e + row_size
slot-end Plain = refl
slot-end Guarded = refl

-- row i of those outward, by the state whose row it is
module _ (d : List ℕ) (x g : ℕ) (b : List ℕ) where
  out_cons : (s i : ℕ) (p : List ℕ) → (s ≡ 0 → ⊥) → ((j : ℕ) → get_or (rows_out d x g p) j b ≡ row_or b d x g (nth_out d g j p))
      → get_or (rows_out d x g (s ∷ p)) i b ≡ row_or b d x g (nth_out d g i (s ∷ p))
  unfolding rows_out nth_out
  out_cons s i p n ih = go (has_row d g s) i
    where
      tail : (j : ℕ) (c : Bool) → get_or (cond c [] (rows_out d x g p)) j b ≡ row_or b d x g (cond c 0 (nth_out d g j p))
      tail j true = refl
      tail j false = ih j

      go : (h : Bool) (i : ℕ) → get_or (cond h (row_of (flag_of d g s) (answer_by d x g s) ∷ cond (eqb (flag_of d g s) 0) [] (rows_out d x g p)) (rows_out d x g p)) i b
          ≡ row_or b d x g (cond h (cond (eqb i 0) s (cond (eqb (flag_of d g s) 0) 0 (nth_out d g (i - 1) p))) (nth_out d g i p))
      go false i = ih i
      go true zero = rw (ne_eqb s 0 n)
      go true (suc i) =
          let q : suc i - 1 ≡ i = omega arith in
          rw (ne_eqb (suc i) 0 (λ z. omega arith), q) (tail i (eqb (flag_of d g s) 0))

  pub out_nth : (k s i : ℕ) → get_or (rows_out d x g (path k d s)) i b ≡ row_or b d x g (nth_out d g i (path k d s))
  out_nth zero s i = unfold path rows_out nth_out in refl
  out_nth (suc k) s i =
      ⊎_elim
      (λ z. rw (path_top d (suc k) s z) (unfold rows_out nth_out in refl))
      (λ n. rw (path-cons d k s n) (out_cons s i (path k d (parent d s)) n (out_nth k (parent d s))))
      (eq_or s 0)

  pub out_none : (i : ℕ) → nth_out d g i (outward d x) ≡ 0 → get_or (rows_out d x g (outward d x)) i b ≡ b
  out_none i z = out_nth levels x i ∙ rw (eq-eqb (nth_out d g i (outward d x)) 0 z)

  pub out_some : (i s : ℕ) → s ≡ nth_out d g i (outward d x) → (s ≡ 0 → ⊥) → get_or (rows_out d x g (outward d x)) i b ≡ row_of (flag_of d g s) (answer_by d x g s)
  out_some i s q n = out_nth levels x i ∙ rw (← q, ne_eqb s 0 n)

module _ (e : Edition) (d : List ℕ) where
  pub no_length : (k : ℕ) → length (row_no e d k) ≡ row_size
  unfolding row_no
  no_length k =
      let s = k / (signal_count * each e) + 1 in
      cond_pick (λ (l : List ℕ). length l ≡ row_size) (leb s (states d)) _ _
      (λ q. out_length d s (k / each e % signal_count + first_signal) (outward d s) (k % each e) (behind e s) (behind-length e s)) (λ q. refl)

  module _ (k s : ℕ) (q : s ≡ k / (signal_count * each e) + 1) where
    pub no_there : (g i : ℕ) → g ≡ k / each e % signal_count + first_signal → i ≡ k % each e → s ≤ states d → get_or (rows_out d s g (outward d s)) i (behind e s) ≡ row_no e d k
    unfolding row_no
    no_there g i a b h = rw (← q, ← a, ← b, le-leb s (states d) h)

    pub no_absent : states d < s → replicate row_size 0 ≡ row_no e d k
    unfolding row_no
    no_absent h = rw (← q, lt-leb s (states d) h)

  rows-length : (k n : ℕ) → length (rows_from e d k n) ≡ row_size * n
  unfolding rows_from
  rows-length k zero = refl
  rows-length k (suc n) = length-append (row_no e d k) (rows_from e d (suc k) n) ∙ omega (arith, no_length k, rows-length (suc k) n)

  rows_split : (k m n : ℕ) → rows_from e d k (m + n) ≡ rows_from e d k m ++ rows_from e d (k + m) n
  unfolding rows_from
  rows_split k zero n =
      let a : 0 + n ≡ n = omega arith in
      let b : k + 0 ≡ k = omega arith in
      rw (a, b) refl
  rows_split k (suc m) n =
      let a : suc m + n ≡ suc (m + n) = omega arith in
      let b : k + suc m ≡ suc k + m = omega arith in
      rw (a, b, rows_split (suc k) m n) (sym (append_assoc (row_no e d k) (rows_from e d (suc k) m) (rows_from e d (suc k + m) n)))

  -- the start row and k rows more
  abbrev pub rows_to : ℕ → List ℕ
  rows_to k = row_of 0 (start d) ++ rows_from e d 0 k

  rows_to_length : (k : ℕ) → length (rows_to k) ≡ row_size * k + row_size
  rows_to_length k = length-append (row_of 0 (start d)) (rows_from e d 0 k) ∙ omega (arith, row-length 0 (start d), rows-length 0 k)

  rows_to_more : (k : ℕ) → rows_to (k + 1) ≡ rows_to k ++ row_no e d k
  unfolding rows_from
  rows_to_more k =
      let z : 0 + k ≡ k = omega arith in
      rw (rows_split 0 k 1, z, append-nil (row_no e d k)) (sym (append_assoc (row_of 0 (start d)) (rows_from e d 0 k) (row_no e d k)))

  -- the rows from row k on begin with that row
  rows_at : (n k : ℕ) → k < n → take row_size (drop (row_size + row_size * k) (rows_to n)) ≡ row_no e d k
  unfolding rows_from
  rows_at n k h =
      let m = n - 1 - k in
      let a : n ≡ k + suc m = omega arith in
      let z : 0 + k ≡ k = omega arith in
      let s : rows_from e d 0 n ≡ rows_from e d 0 k ++ (row_no e d k ++ rows_from e d (suc k) m) =
      ap (rows_from e d 0) a ∙ rows_split 0 k (suc m) ∙ rw z refl in
      let w : rows_to n ≡ rows_to k ++ (row_no e d k ++ rows_from e d (suc k) m) =
      ap (λ l. row_of 0 (start d) ++ l) s ∙ sym (append_assoc (row_of 0 (start d)) (rows_from e d 0 k) _) in
      ap (λ l. take row_size (drop (row_size + row_size * k) l)) w
      ∙ ap (take row_size) (drop_at (rows_to k) _ (row_size + row_size * k) (rows_to_length k ∙ omega arith))
      ∙ take_at (row_no e d k) _ row_size (no_length k)

  pub slot_at : (k : ℕ) → k < row_count e → take row_size (drop (row_size + row_size * k) (slot_bytes e d)) ≡ row_no e d k
  unfolding slot_bytes
  slot_at k h = rows_at (row_count e) k h

  pub slot-start : take row_size (slot_bytes e d) ≡ row_of 0 (start d)
  unfolding slot_bytes
  slot-start = take_at (row_of 0 (start d)) (rows_from e d 0 (row_count e)) row_size (row-length 0 (start d))

  pub slot-length : length (slot_bytes e d) ≡ slot_size e
  unfolding slot_bytes
  slot-length = rows_to_length (row_count e) ∙ sym (slot-end e)

  -- ## Writing the slot
  -- the first row stands, and the rest of the table is as it is
  pub first_row : (t w : List ℕ) → t ≡ row_of 0 (start d) ++ w → t ≡ rows_to 0 ++ drop row_size t
  unfolding rows_from
  first_row t w z = rw (z, drop_at (row_of 0 (start d)) w row_size (row-length 0 (start d)), append-nil (row_of 0 (start d)))

  -- One row more: v is written over the part of the table t from row k on, behind the rows before; u is the table at the first.
  pub row-turn : (k : ℕ) (u t v : List ℕ) → v ≡ row_no e d k → t ≡ rows_to k ++ drop (row_size * k + row_size) u
      → put_mid (row_size * k + row_size) (length t - (row_size * k + row_size)) t (v ++ drop row_size (take (length t - (row_size * k + row_size)) (drop (row_size * k + row_size) t)))
      ≡ rows_to (k + 1) ++ drop (row_size * (k + 1) + row_size) u
  row-turn k u t v q z =
      let at = row_size * k + row_size in
      let l = rows_to_length k in
      let f : drop at t ≡ drop at u = rw z (drop_at (rows_to k) (drop at u) at l) in
      let g : take at t ≡ rows_to k = rw z (take_at (rows_to k) (drop at u) at l) in
      let h : drop (length t - at) (drop at t) ≡ [] = drop_of_length-le (drop at t) {i = length t - at} (rw (length-drop at t) (le_refl (length t - at))) in
      let a : row_size * (k + 1) + row_size ≡ at + row_size = omega arith in
      rw (g, tail_part t at, h, f, drop-drop row_size at u, q, rows_to_more k, a)
      (ap (λ w. rows_to k ++ w) (append-nil (row_no e d k ++ drop (at + row_size) u)) ∙ sym (append_assoc (rows_to k) (row_no e d k) (drop (at + row_size) u)))

  pub rows_done : (k : ℕ) (u t : List ℕ) → k ≡ row_count e → length u ≡ slot_size e → t ≡ rows_to k ++ drop (row_size * k + row_size) u → t ≡ slot_bytes e d
  unfolding slot_bytes
  rows_done k u t q l z =
      let n : drop (row_size * k + row_size) u ≡ [] = drop_of_length-le u {i = row_size * k + row_size} (omega (arith, slot-end e)) in
      z ∙ rw (n, append-nil, q)
