-- A loop that lets go of one block after the other, of each as often as a list says: the row at its start, after one turn, at its end.
use mathlib.Core.List.{List, []}
use mathlib.Core.Path.{◌≡◌, refl, sym, ap, ◌∙◌}
use Prim.Native.Nat.{ℕ, ◌+◌, ◌<◌, ◌≤◌}
use native.Mathlib.Decide.{dec_lt, ℕ_discrete}
use native.Mathlib.Omega.{arith}
use lib.ListN.{length, get_or, take, length-take, get_or-eq_default}
use lib.Seq.{get_or-take}
use Rattle.pool.specs.Cell.{Cell, fewer_by}
use Rattle.pool.specs.Laws.{changed-length, changed-here, changed_other, gone_at, gone_is, gone_length}
use Rattle.pool.specs.Row.{at, changed, gone_times}

-- past the first n of a list there is nothing, and one more of them adds only its own place
taken_past : (l : List ℕ) (n k : ℕ) → n ≤ k → get_or (take n l) k 0 ≡ 0
taken_past l n k h = get_or-eq_default (take n l) 0 (omega (arith, length-take n l))

taken_other : (l : List ℕ) (n k : ℕ) → (k ≡ n → ⊥) → get_or (take n l) k 0 ≡ get_or (take (n + 1) l) k 0
taken_other l n k ne = go (dec_lt k n)
  where
    go : Dec (k < n) → get_or (take n l) k 0 ≡ get_or (take (n + 1) l) k 0
    go (yes h) = rw (get_or-take n l k 0 h, get_or-take (n + 1) l k 0 (omega arith)) refl
    go (no h) = taken_past l n k (omega arith) ∙ sym (taken_past l (n + 1) k (omega arith))

pub each_start : (s : List Cell) → gone_times s [] ≡ s
unfolding fewer_by
each_start s = gone_is s s [] refl (λ k h. refl)

module _ (s : List Cell) (times : List ℕ) (b : ℕ) where
  pub each_turn : (before : List Cell) → before ≡ gone_times s (take b times) → changed (fewer_by (get_or times b 0)) before b ≡ gone_times s (take (b + 1) times)
  unfolding fewer_by
  each_turn before was = sym (gone_is s _ _ (changed-length f before b ∙ ap length was ∙ gone_length s (take b times)) (λ k h. each k h (ℕ_discrete k b)))
    where
      f : Cell → Cell
      f = fewer_by (get_or times b 0)

      was-at : (k : ℕ) → k < length s → at before k ≡ fewer_by (get_or (take b times) k 0) (at s k)
      was-at k h = rw was (gone_at s (take b times) k h)

      each : (k : ℕ) → k < length s → Dec (k ≡ b) → at (changed f before b) k ≡ fewer_by (get_or (take (b + 1) times) k 0) (at s k)
      each k h (yes e) =
          let here = changed-here f before b (rw was (omega (arith, e, gone_length s (take b times)))) in
          rw (e, get_or-take (b + 1) times b 0 (omega arith)) (here ∙ ap f (was-at b (omega (arith, e)) ∙ rw (taken_past times b b (omega arith)) refl))
      each k h (no ne) = changed_other f before b k ne ∙ was-at k h ∙ rw (taken_other times b k ne) refl

  pub each-end : length s ≤ b → gone_times s (take b times) ≡ gone_times s times
  each-end l = gone_is s _ _ (gone_length s times) (λ k h. rw (get_or-take b times k 0 (omega arith)) (gone_at s times k h))
