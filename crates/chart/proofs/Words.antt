-- Laws of the flags of an object as the kernel holds them, in a word for each flag.
use mathlib.Core.Bool.{Bool, false}
use mathlib.Core.List.{List, ◌∷◌}
use mathlib.Core.Logic.{⊎_elim}
use mathlib.Core.Path.{◌≡◌, refl, sym, ap, ◌∙◌}
use Prim.Native.Nat.{ℕ, zero, suc, ◌-◌, ◌≤◌, ◌<◌}
use native.Mathlib.Decide.{dec_lt}
use native.Mathlib.Nat.{div-eq_of_lt}
use native.Mathlib.Omega.{arith}
use lib.ListN.{length, get_or, set, replicate, get_or-eq_default}
use lib.Pow.{pow_pos}
use lib.Seq.{get_or-set_same, get_or-set_other}
use Rattle.bits.specs.Laws.{put-here, put_other}
use Rattle.bits.specs.Members.{members, put}
use Rattle.ground.specs.Bools.{eq_or}
use Rattle.ground.specs.Padding.{zeros-at}
use Rattle.chart.specs.Flags.{all_down, in_words}
use Rattle.chart.specs.Numbers.{Guarded, most_flag}

-- no object is in the empty set
none_in : (p : ℕ) → members 0 p ≡ false
unfolding members
none_in p = rw (div-eq_of_lt (pow_pos p)) refl

-- flag f stands in word f - 1
pub words_at : (words : List ℕ) (p f : ℕ) → (f ≡ 0 → ⊥) → in_words words p f ≡ members (get_or words (f - 1) 0) p
unfolding in_words
words_at words p f n = let q : f ≡ suc (f - 1) = omega arith in ap (λ k. members (get_or (0 ∷ words) k 0) p) q

-- The kernel's words before any flag went up.
pub words_down : (p : ℕ) → in_words (replicate (most_flag Guarded) 0) p ≡ all_down
unfolding in_words
words_down p = λ i f. (ap (λ w. members w p) (zeros-at (suc (most_flag Guarded)) f) ∙ none_in p) i

-- Flag f of object p set or cleared: its word w is changed so. The other objects' flags stay.
module _ (words : List ℕ) (p f w : ℕ) (v : Bool) (low : 1 ≤ f) (high : f ≤ length words) (changed : members w ≡ put p v (members (get_or words (f - 1) 0))) where
  here : (x : ℕ) → in_words (set words (f - 1) w) x f ≡ put p v (members (get_or words (f - 1) 0)) x
  here x =
      words_at (set words (f - 1) w) x f (λ z. omega arith)
      ∙ ap (λ n. members n x) (get_or-set_same words (f - 1) w 0 (omega arith))
      ∙ ap (λ s. s x) changed

  there : (x j : ℕ) → (j ≡ f → ⊥) → in_words (set words (f - 1) w) x j ≡ in_words words x j
  unfolding in_words
  there x zero ne = refl
  there x (suc j) ne = ap (λ n. members n x) (get_or-set_other words (f - 1) j w 0 (λ q. ne (omega arith)))

  pub words_put : in_words (set words (f - 1) w) p ≡ put f v (in_words words p)
  words_put = λ i j. each j i
    where
      each : (j : ℕ) → in_words (set words (f - 1) w) p j ≡ put f v (in_words words p) j
      each j =
          ⊎_elim
          (λ q. rw q (here p ∙ put-here p v _ ∙ sym (put-here f v (in_words words p))))
          (λ ne. there p j ne ∙ sym (put_other f v (in_words words p) j ne))
          (eq_or j f)

  pub words_others : (x : ℕ) → (x ≡ p → ⊥) → in_words (set words (f - 1) w) x ≡ in_words words x
  words_others x other = λ i j. each j i
    where
      each : (j : ℕ) → in_words (set words (f - 1) w) x j ≡ in_words words x j
      each j = ⊎_elim (λ q. rw q (here x ∙ put_other p v _ x other ∙ sym (words_at words x f (λ z. omega arith)))) (λ ne. there x j ne) (eq_or j f)

-- Object p taken out of each word: its flags are down, and those of the others stay.
module _ (words new : List ℕ) (p : ℕ) (same : length new ≡ length words)
    (without : (i : ℕ) → i < length words → members (get_or new i 0) ≡ put p false (members (get_or words i 0))) where
  word : (i : ℕ) (x : ℕ) → members (get_or new i 0) x ≡ put p false (members (get_or words i 0)) x
  word i x = go (dec_lt i (length words))
    where
      none_put : put p false (members 0) x ≡ false
      none_put = ⊎_elim (λ q. rw q (put-here p false (members 0))) (λ ne. put_other p false (members 0) x ne ∙ none_in x) (eq_or x p)

      go : Dec (i < length words) → members (get_or new i 0) x ≡ put p false (members (get_or words i 0)) x
      go (yes l) = ap (λ s. s x) (without i l)
      go (no l) =
          rw (get_or-eq_default new 0 {n = i} (omega arith), get_or-eq_default words 0 {n = i} (omega arith)) (none_in x ∙ sym none_put)

  pub words_cleared : in_words new p ≡ all_down
  unfolding in_words
  words_cleared = λ i f. each f i
    where
      each : (f : ℕ) → in_words new p f ≡ false
      each zero = none_in p
      each (suc f) = word f p ∙ put-here p false _

  pub words_kept : (x : ℕ) → (x ≡ p → ⊥) → in_words new x ≡ in_words words x
  unfolding in_words
  words_kept x other = λ i f. each f i
    where
      each : (f : ℕ) → in_words new x f ≡ in_words words x f
      each zero = refl
      each (suc f) = word f x ∙ put_other p false _ x other
