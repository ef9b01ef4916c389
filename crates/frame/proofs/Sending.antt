-- Laws of the writer: the sum of bytes, what is sent for them and for a frame, and storing that in an area, piece after piece.
use Rattle.std.proofs.Common.{◌≡◌, ℕ, suc, ◌+◌, ◌*◌, ◌<◌, ◌≤◌, Bool, true, false, cond, eqb, List, [], ◌∷◌, ◌++◌, length, get_or, drop, set, sym, refl, ap, ◌∙◌, append_assoc, append-nil, add-zero, add-one, arith, length-append, length-set, drop_of_length-le, drop-cons}
use Rattle.std.proofs.lemmas.List.Sums.{sum_by-cons}
use Rattle.std.specs.Prelude.{map, sum_by}
use lib.Seq.{sets, sets-eq}
use Rattle.frame.specs.Stores.{stored, Puts}
use Rattle.frame.specs.Wire.{sent, sent_all, sum, check_of, unescaped, frame_bytes}

sent-append : (u v : List ℕ) → sent_all (u ++ v) ≡ sent_all u ++ sent_all v
unfolding sent_all
sent-append [] v = refl
sent-append (x ∷ u) v = ap (λ l. sent x ++ l) (sent-append u v) ∙ sym (append_assoc (sent x) (sent_all u) (sent_all v))

pub sent-snoc : (u : List ℕ) (x : ℕ) → sent_all (u ++ (x ∷ [])) ≡ sent_all u ++ sent x
unfolding sent_all
sent-snoc u x = sent-append u (x ∷ []) ∙ ap (λ l. sent_all u ++ l) (append-nil (sent x))

pub sent_sizes : (l : List ℕ) → sum_by (λ x. x) (map (λ b. length (sent b)) l) ≡ length (sent_all l)
unfolding sent_all
sent_sizes [] = refl
sent_sizes (b ∷ l) = sum_by-cons (λ x. x) (length (sent b)) (map (λ b. length (sent b)) l) ∙ rw (sent_sizes l) (sym (length-append (sent b) (sent_all l)))

-- a byte is sent as two at most, and so has every frame room in 193
sent_most : (b : ℕ) → length (sent b) ≤ 2
unfolding sent
sent_most b = go (eqb b 0x7E) (eqb b 0x7D)
  where
    go : (t v : Bool) → length (cond t (0x7D ∷ 0x5E ∷ []) (cond v (0x7D ∷ 0x5D ∷ []) (b ∷ []))) ≤ 2
    go true v = omega arith
    go false true = omega arith
    go false false = omega arith

pub sent_all_most : (l : List ℕ) → length (sent_all l) ≤ 2 * length l
unfolding sent_all
sent_all_most [] = omega arith
sent_all_most (b ∷ l) = rw (length-append (sent b) (sent_all l)) (omega (arith, sent_most b, sent_all_most l))

pub unescaped-length : (n k : ℕ) (d : List ℕ) → length (unescaped n k d) ≡ 3 + length d
unfolding unescaped
unescaped-length n k d = length-append (n ∷ k ∷ d) (check_of (n ∷ k ∷ d) ∷ []) ∙ omega arith

pub frame_most : (n k : ℕ) (d : List ℕ) → length d ≤ 93 → length (frame_bytes n k d) ≤ 193
unfolding frame_bytes
frame_most n k d h = rw (length-append (sent_all (unescaped n k d)) (0x7E ∷ [])) (omega (arith, sent_all_most (unescaped n k d), unescaped-length n k d))

module _ (n k c : ℕ) (d : List ℕ) (e : c ≡ check_of (n ∷ k ∷ d)) where
  pub frame-sent : frame_bytes n k d ≡ sent n ++ sent k ++ sent_all d ++ sent c ++ (0x7E ∷ [])
  unfolding frame_bytes unescaped sent_all
  frame-sent = rw (e, append_assoc (sent n) (sent k) (sent_all d)) (ap (λ l. l ++ (0x7E ∷ [])) (sent-snoc (n ∷ k ∷ d) (check_of (n ∷ k ∷ d))))

  pub frame-length : length (frame_bytes n k d) ≡ length (sent n) + length (sent k) + length (sent_all d) + length (sent c) + 1
  frame-length = rw frame-sent (simp length-append refl)

sum-append : (l m : List ℕ) → sum (l ++ m) ≡ sum l + sum m
unfolding sum
sum-append [] m = omega arith
sum-append (x ∷ l) m = rw (sum-append l m) (omega arith)

sum_one : (x : ℕ) → sum (x ∷ []) ≡ x
unfolding sum
sum_one x = add-zero x

pub sum-push : (l : List ℕ) (x : ℕ) → sum (l ++ (x ∷ [])) ≡ sum l + x
sum-push l x = rw (sum-append l (x ∷ []), sum_one x) refl

sets_append : (l : List ℕ) (i : ℕ) (a b : List ℕ) → sets l i (a ++ b) ≡ sets (sets l i a) (i + length a) b
sets_append l i [] b = rw add-zero refl
sets_append l i (x ∷ a) b =
    let e : suc i + length a ≡ i + suc (length a) = omega arith in
    sets_append (set l i x) (suc i) a b ∙ ap (λ k. sets (sets (set l i x) (suc i) a) k b) e

pub stored-append : (l : List ℕ) (i : ℕ) (a b : List ℕ) → stored l i (a ++ b) ≡ stored (stored l i a) (i + length a) b
unfolding stored
stored-append l i a b = sets_append l i a b

pub stored_none : (l : List ℕ) (i : ℕ) → stored l i [] ≡ l
unfolding stored
stored_none l i = refl

-- at the front of an area that has room
pub stored-front : (l v : List ℕ) → length v ≤ length l → stored l 0 v ≡ v ++ drop (length v) l
unfolding stored
stored-front l v h = let e : 0 + length v ≡ length v = omega arith in sets-eq v l 0 (omega arith) ∙ ap (λ n. v ++ drop n l) e

puts_one : (l : List ℕ) (i b : ℕ) → Puts l i (b ∷ []) (set l i b) (i + 1)
unfolding stored
puts_one l i b = record { place = refl; sized = length-set l i b; area_is = refl }

pub puts_then : (l u v next last : List ℕ) (i j k : ℕ) → Puts l i u next j → Puts next j v last k → Puts l i (u ++ v) last k
puts_then l u v next last i j k p q = record {
  place = rw (length-append u v) (omega (arith, p.place, q.place));
  sized = q.sized ∙ p.sized;
  area_is = rw (stored-append l i u v, ← p.area_is, ← p.place) q.area_is;
}

module _ (d : List ℕ) (i : ℕ) where
  pub sent-turn : i < length d → sent_all (drop i d) ≡ sent (get_or d i 0) ++ sent_all (drop (i + 1) d)
  unfolding sent_all
  sent-turn h = rw (drop-cons d i 0 h, add-one) refl

  pub sent-end : length d ≤ i → sent_all (drop i d) ≡ []
  unfolding sent_all
  sent-end h = rw (drop_of_length-le d h) refl

  pub size_turn : i < length d → length (sent_all (drop i d)) ≡ length (sent (get_or d i 0)) + length (sent_all (drop (i + 1) d))
  size_turn h = rw (sent-turn h) (length-append (sent (get_or d i 0)) (sent_all (drop (i + 1) d)))

  -- what is left to write, at j on, makes the whole: before and after byte i, and at the end
  module _ (out all : List ℕ) (j : ℕ) (w : stored out j (sent_all (drop i d)) ≡ all) where
    pub put-turn : (next : List ℕ) (k : ℕ) → i < length d → Puts out j (sent (get_or d i 0)) next k → stored next k (sent_all (drop (i + 1) d)) ≡ all
    put-turn next k h p =
        rw (p.area_is, p.place)
        (sym (stored-append out j (sent (get_or d i 0)) (sent_all (drop (i + 1) d))) ∙ ap (stored out j) (sym (sent-turn h)) ∙ w)

    pub put-end : length d ≤ i → out ≡ all
    put-end h = sym (stored_none out j) ∙ ap (stored out j) (sym (sent-end h)) ∙ w

-- A frame, part by part, and the byte that ends it.
pub filled : (n k c : ℕ) (d : List ℕ) (out o₁ o₂ o₃ o₄ : List ℕ) (i₁ i₂ i₃ i₄ : ℕ) → c ≡ check_of (n ∷ k ∷ d) →
    Puts out 0 (sent n) o₁ i₁ → Puts o₁ i₁ (sent k) o₂ i₂ → Puts o₂ i₂ (sent_all d) o₃ i₃ → Puts o₃ i₃ (sent c) o₄ i₄ →
    set o₄ i₄ 0x7E ≡ stored out 0 (frame_bytes n k d)
filled n k c d out o₁ o₂ o₃ o₄ i₁ i₂ i₃ i₄ e p₁ p₂ p₃ p₄ =
    let q₂ = puts_then _ _ _ _ _ _ _ _ p₁ p₂ in
    let q₃ = puts_then _ _ _ _ _ _ _ _ q₂ p₃ in
    let q₄ = puts_then _ _ _ _ _ _ _ _ q₃ p₄ in
    (puts_then _ _ _ _ _ _ _ _ q₄ (puts_one o₄ i₄ 0x7E)).area_is ∙ ap (stored out 0) (sym (frame-sent n k c d e))
