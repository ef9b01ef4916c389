-- Laws of lists of mailboxes, for the layers above.
use Rattle.std.specs.Prelude.{Bool, false, cond, ◌≡◌, ltb, get_or, set, drop}
use Rattle.std.proofs.Math.Bool.{true}
use mathlib.Core.List.{List, [], ◌∷◌, ◌++◌}
use Rattle.std.proofs.Math.Logic.{⊎_elim}
use Rattle.std.proofs.Math.Path.{refl, sym}
use Rattle.std.proofs.Common.{ap, add-zero, not-suc-le-zero, le_of_suc-le-suc, eq-or-lt_of_le, add-one, eqb-true, eq-eqb, ne_eqb, lt-ltb, le-ltb, length-drop, drop-drop, get_or-drop, set-set}
use Prim.Native.Nat.{ℕ, zero, suc, ◌+◌, ◌*◌, ◌-◌, ◌/◌, ◌%◌, ◌<◌, ◌≤◌}
use Rattle.std.proofs.Math.Decide.{dec_lt}
use Rattle.std.proofs.Math.Nat.{mul-suc}
use native.Mathlib.Omega.{arith}
use Rattle.std.proofs.lemmas.Bool.{eqb-false}
use Rattle.std.proofs.Math.Dec.{eqb}
use Rattle.std.proofs.Math.ListN.{length, length-set, length-append, get_or-append, get_or-eq_default}
use Rattle.std.proofs.Math.Seq.{get_or-append_seam, get_or-set_other, get_or-set_same, set-get_or, set_out}
use Rattle.ground.specs.Bools.{cond_pick}
use Rattle.ground.specs.Lists.{set_all}
use Rattle.mail.specs.Box.{box_at, front, changed, behind, ahead, rest, bare, push_back, push_front, took_first, took_front, emptied}
use Rattle.mail.specs.Box.{highest_of, highest, total, one, times_in, queued, occurrences}
use Rattle.mail.specs.Entry.{first_timer, signals, entry_of, hand_of, timer_of}
use Rattle.mail.specs.declared.Hand.TheVariants.{Nothing, Block, Timer}

-- the mailboxes after an operation
module _ (f : List ℕ → List ℕ) (bs : List (List ℕ)) (q : ℕ) where
  pub changed-length : length (changed f bs q) ≡ length bs
  unfolding changed
  changed-length = length-set bs q (f (box_at bs q))

  pub changed-here : q < length bs → box_at (changed f bs q) q ≡ f (box_at bs q)
  unfolding changed
  changed-here h = get_or-set_same bs q (f (box_at bs q)) [] h

  pub changed_other : (k : ℕ) → (k ≡ q → ⊥) → box_at (changed f bs q) k ≡ box_at bs k
  unfolding changed
  changed_other k ne = get_or-set_other bs q k (f (box_at bs q)) [] ne

module _ (e : ℕ) (b : List ℕ) where
  pub behind-length : length (behind e b) ≡ length b + 1
  unfolding behind
  behind-length = length-append b (e ∷ [])

  pub ahead-length : length (ahead e b) ≡ length b + 1
  unfolding ahead
  ahead-length = sym (add-one (length b))

pub rest-length : (b : List ℕ) → length (rest b) ≡ length b - 1
unfolding rest
rest-length b = length-drop 1 b

module _ (bs : List (List ℕ)) (q : ℕ) where
  -- the first entries leave: none of them, one more of them
  pub first_none : took_first bs q 0 ≡ bs
  unfolding changed
  first_none = set-get_or bs q []

  pub first_more : (i : ℕ) → took_front (took_first bs q i) q ≡ took_first bs q (i + 1)
  unfolding changed rest
  first_more i = go (dec_lt q (length bs))
    where
      go : Dec (q < length bs) → took_front (took_first bs q i) q ≡ took_first bs q (i + 1)
      go (yes l) = rw (set-set, get_or-set_same bs q (drop i (box_at bs q)) [] l, drop-drop) refl
      go (no l) = rw (set-set, set_out bs q _ (omega arith), set_out bs q _ (omega arith)) refl

  -- the front and the length of what is left
  module _ (l : q < length bs) (i : ℕ) where
    pub first_front : front (took_first bs q i) q ≡ get_or (box_at bs q) i 0
    first_front = rw (changed-here (drop i) bs q l, get_or-drop, add-zero) refl

    pub first_length : length (box_at (took_first bs q i) q) ≡ length (box_at bs q) - i
    first_length = rw (changed-here (drop i) bs q l, length-drop) refl

pub bare-length : (b : List ℕ) → length (bare b) ≡ 0
unfolding bare
bare-length b = refl

-- only an object that is there has mail
pub mail_within : (bs : List (List ℕ)) (q : ℕ) → 0 < length (box_at bs q) → q < length bs
mail_within [] q h = absurd (not-suc-le-zero h)
mail_within (b ∷ bs) zero h = omega arith
mail_within (b ∷ bs) (suc q) h = let l = mail_within bs q h in omega arith

-- Of the first n objects r, counted from 1, is the highest that has mail, or none has and r is 0.
pub record Highest (bs : List (List ℕ)) (n r : ℕ) : Type 0 where
  pub most : r ≤ n
  pub has_mail : 0 < r → 0 < length (box_at bs (r - 1))
  pub none_above : (q : ℕ) → r ≤ q → q < n → length (box_at bs q) ≡ 0

module _ (bs : List (List ℕ)) where
  pub highest-is : (n : ℕ) → Highest bs n (highest_of bs n)
  unfolding highest_of
  highest-is zero = record { most = omega arith; has_mail = λ h. absurd (omega arith); none_above = λ q l h. absurd (omega arith) }
  highest-is (suc n) = cond_pick (Highest bs (suc n)) (eqb (length (box_at bs n)) 0) (highest_of bs n) (suc n) (lower (highest-is n)) here
    where
      lower : Highest bs n (highest_of bs n) → eqb (length (box_at bs n)) 0 ≡ true → Highest bs (suc n) (highest_of bs n)
      lower f e = record {
        most = omega (arith, f.most);
        has_mail = f.has_mail;
        none_above = λ q l h. ⊎_elim (λ k. rw k (eqb-true (length (box_at bs n)) 0 e)) (λ k. f.none_above q l k) (eq-or-lt_of_le (le_of_suc-le-suc h));
      }

      here : eqb (length (box_at bs n)) 0 ≡ false → Highest bs (suc n) (suc n)
      here e =
          let z : suc n - 1 ≡ n = omega arith in
          record { most = omega arith; has_mail = λ h. rw z (omega (arith, eqb-false (length (box_at bs n)) 0 e)); none_above = λ q l h. absurd (omega arith) }

-- sums over the mailboxes
module _ (f : List ℕ → ℕ) where
  total-set : (bs : List (List ℕ)) (q : ℕ) (b : List ℕ) → q < length bs → total f (set bs q b) + f (box_at bs q) ≡ total f bs + f b
  unfolding total
  total-set [] q b l = absurd (not-suc-le-zero l)
  total-set (x ∷ bs) zero b l = omega arith
  total-set (x ∷ bs) (suc q) b l = omega (arith, total-set bs q b (le_of_suc-le-suc l))

  pub total-changed : (g : List ℕ → List ℕ) (bs : List (List ℕ)) (q : ℕ) → q < length bs →
      total f (changed g bs q) + f (box_at bs q) ≡ total f bs + f (g (box_at bs q))
  unfolding changed
  total-changed g bs q l = total-set bs q (g (box_at bs q)) l

  total-has : (bs : List (List ℕ)) (q : ℕ) → q < length bs → f (box_at bs q) ≤ total f bs
  unfolding total
  total-has [] q l = absurd (not-suc-le-zero l)
  total-has (b ∷ bs) zero l = omega arith
  total-has (b ∷ bs) (suc q) l = omega (arith, total-has bs q (le_of_suc-le-suc l))

  pub total_most : (m : ℕ) (bs : List (List ℕ)) → ((q : ℕ) → f (box_at bs q) ≤ m) → total f bs ≤ m * length bs
  unfolding total
  total_most m [] h = omega arith
  total_most m (b ∷ bs) h = rw mul-suc (omega (arith, h 0, total_most m bs (λ q. h (suc q))))

  pub total_le : (g : List ℕ → ℕ) → ((b : List ℕ) → f b ≤ g b) → (bs : List (List ℕ)) → total f bs ≤ total g bs
  unfolding total
  total_le g h [] = omega arith
  total_le g h (b ∷ bs) = omega (arith, h b, total_le g h bs)

-- how often an entry stands in one mailbox
module _ (e : ℕ) where
  times_behind : (v : ℕ) (b : List ℕ) → times_in e (behind v b) ≡ times_in e b + one (eqb v e)
  unfolding times_in behind
  times_behind v [] = omega arith
  times_behind v (x ∷ b) = omega (arith, times_behind v b)

  times_ahead : (v : ℕ) (b : List ℕ) → times_in e (ahead v b) ≡ times_in e b + one (eqb v e)
  unfolding times_in ahead
  times_ahead v b = omega arith

  times_rest : (b : List ℕ) → 0 < length b → times_in e (rest b) + one (eqb (get_or b 0 0) e) ≡ times_in e b
  unfolding times_in rest
  times_rest [] l = absurd (not-suc-le-zero l)
  times_rest (x ∷ b) l = omega arith

  times_most : (b : List ℕ) → times_in e b ≤ length b
  unfolding times_in
  times_most [] = omega arith
  times_most (x ∷ b) = let m = times_most b in cond_pick (λ k. k + times_in e b ≤ suc (length b)) (eqb x e) 1 0 (λ t. omega arith) (λ t. omega arith)

times_has : (b : List ℕ) (i : ℕ) → i < length b → 0 < times_in (get_or b i 0) b
unfolding times_in
times_has [] i l = absurd (not-suc-le-zero l)
times_has (x ∷ b) zero l = rw (eq-eqb x x refl) (omega arith)
times_has (x ∷ b) (suc i) l = omega (arith, times_has b i (le_of_suc-le-suc l))

module _ (bs : List (List ℕ)) (q : ℕ) where
  -- an entry that is there occurs
  pub occurrences-has : (i : ℕ) → i < length (box_at bs q) → 0 < occurrences (get_or (box_at bs q) i 0) bs
  occurrences-has i l =
      let e = get_or (box_at bs q) i 0 in
      omega (arith, times_has (box_at bs q) i l, total-has (times_in e) bs q (mail_within bs q (omega arith)))

  module _ (l : q < length bs) (v : ℕ) where
    pub occurrences-back : (e : ℕ) → occurrences e (push_back bs q v) ≡ occurrences e bs + one (eqb v e)
    occurrences-back e = omega (arith, total-changed (times_in e) (behind v) bs q l, times_behind e v (box_at bs q))

    pub occurrences-front : (e : ℕ) → occurrences e (push_front bs q v) ≡ occurrences e bs + one (eqb v e)
    occurrences-front e = omega (arith, total-changed (times_in e) (ahead v) bs q l, times_ahead e v (box_at bs q))

  module _ (h : 0 < length (box_at bs q)) where
    pub queued_took : queued (took_front bs q) + 1 ≡ queued bs
    queued_took = omega (arith, total-changed length rest bs q (mail_within bs q h), rest-length (box_at bs q))

    pub occurrences_took : (e : ℕ) → occurrences e (took_front bs q) + one (eqb (front bs q) e) ≡ occurrences e bs
    occurrences_took e = omega (arith, total-changed (times_in e) rest bs q (mail_within bs q h), times_rest e (box_at bs q) h)

  pub occurrences-emptied : q < length bs → (e : ℕ) → occurrences e (emptied bs q) + times_in e (box_at bs q) ≡ occurrences e bs
  unfolding bare times_in
  occurrences-emptied l e = omega (arith, total-changed (times_in e) bare bs q l)

module _ (bs : List (List ℕ)) where
  pub occurrences-queued : (e : ℕ) → occurrences e bs ≤ queued bs
  occurrences-queued e = total_le (times_in e) length (times_most e) bs

  pub queued_most : (m : ℕ) → ((q : ℕ) → length (box_at bs q) ≤ m) → queued bs ≤ m * length bs
  queued_most m h = total_most length m bs h

  pub occurrences_most : (e m : ℕ) → ((q : ℕ) → length (box_at bs q) ≤ m) → occurrences e bs ≤ m * length bs
  occurrences_most e m h = let l = occurrences-queued e in let k = queued_most m h in omega arith

  -- where no object has mail nothing is queued
  pub highest_none : highest bs ≡ 0 → queued bs ≡ 0
  highest_none z = let k = queued_most 0 (λ q. none q (dec_lt q (length bs))) in omega arith
    where
      none : (q : ℕ) → Dec (q < length bs) → length (box_at bs q) ≤ 0
      none q (yes h) = omega (arith, (highest-is bs (length bs)).none_above q (omega arith) h)
      none q (no h) = let e : box_at bs q ≡ [] = get_or-eq_default bs [] (omega arith) in rw e (omega arith)

-- P holds of each entry of one mailbox, of all
abbrev pub OfEach : (ℕ → Type 0) → List ℕ → Type 0
OfEach P b = (i : ℕ) → i < length b → P (get_or b i 0)

abbrev pub OfAll : (ℕ → Type 0) → List (List ℕ) → Type 0
OfAll P bs = (q : ℕ) → OfEach P (box_at bs q)

module _ (P : ℕ → Type 0) where
  each-behind : (e : ℕ) (b : List ℕ) → P e → OfEach P b → OfEach P (behind e b)
  unfolding behind
  each-behind e b p h i l = go (dec_lt i (length b))
    where
      go : Dec (i < length b) → P (get_or (b ++ (e ∷ [])) i 0)
      go (yes k) = rw (get_or-append b (e ∷ []) 0 i k) (h i k)
      go (no k) = let z : i ≡ length b = omega (arith, length-append b (e ∷ [])) in rw (z, get_or-append_seam b e [] 0) p

  each-ahead : (e : ℕ) (b : List ℕ) → P e → OfEach P b → OfEach P (ahead e b)
  unfolding ahead
  each-ahead e b p h zero l = p
  each-ahead e b p h (suc i) l = h i (le_of_suc-le-suc l)

  each-rest : (b : List ℕ) → OfEach P b → OfEach P (rest b)
  unfolding rest
  each-rest [] h i l = absurd (not-suc-le-zero l)
  each-rest (x ∷ b) h i l = h (suc i) (omega arith)

  module _ (bs : List (List ℕ)) (q : ℕ) (h : OfAll P bs) where
    pub all_changed : (f : List ℕ → List ℕ) → OfEach P (f (box_at bs q)) → OfAll P (changed f bs q)
    unfolding changed
    all_changed f g = go (dec_lt q (length bs))
      where
        go : Dec (q < length bs) → OfAll P (set bs q (f (box_at bs q)))
        go (yes l) = set_all (λ k. OfEach P) bs [] q (f (box_at bs q)) l (λ k ne. h k) g
        go (no l) = rw (set_out bs q (f (box_at bs q)) (omega arith)) h

    pub all_back : (e : ℕ) → P e → OfAll P (push_back bs q e)
    all_back e p = all_changed (behind e) (each-behind e (box_at bs q) p (h q))

    pub all_front : (e : ℕ) → P e → OfAll P (push_front bs q e)
    all_front e p = all_changed (ahead e) (each-ahead e (box_at bs q) p (h q))

    pub all_took : OfAll P (took_front bs q)
    all_took = all_changed rest (each-rest (box_at bs q) (h q))

    pub all_emptied : OfAll P (emptied bs q)
    unfolding bare
    all_emptied = all_changed bare (λ i l. absurd (not-suc-le-zero l))

-- there and back, from what an entry stands for
pub block_back : (b : ℕ) → b < first_timer - 1 → hand_of (entry_of (Block b)) ≡ Block b
unfolding hand_of entry_of
block_back b l = rw (ne_eqb (1 + b) 0 (λ e. omega arith), lt-ltb (1 + b) first_timer (omega arith)) (ap Block (omega arith))

-- an entry that stands for a block is that block's entry
pub block_entry : (e b : ℕ) → hand_of e ≡ Block b → e ≡ entry_of (Block b)
unfolding hand_of entry_of
block_entry e b = go (eqb e 0) refl (ltb e first_timer)
  where
    go : (none : Bool) → eqb e 0 ≡ none → (block : Bool) → cond none Nothing (cond block (Block (e - 1)) (timer_of (e - first_timer))) ≡ Block b → e ≡ 1 + b
    go true z block h = let w : ◌≡◌ {A = ℕ} 0 1 = cc in absurd (omega arith)
    go false z true h = let k : e - 1 ≡ b = cc in omega (arith, eqb-false e 0 z)
    go false z false h = let w : ◌≡◌ {A = ℕ} 0 1 = cc in absurd (omega arith)

pub timer_back : (t g : ℕ) → t < 256 → g < signals → hand_of (entry_of (Timer t g)) ≡ Timer t g
unfolding hand_of entry_of
timer_back t g l m =
    let e = first_timer + signals * t + g in
    let e1 : (e - first_timer) / signals % 256 ≡ t = omega arith in
    let e2 : (e - first_timer) % signals ≡ g = omega arith in
    rw (ne_eqb e 0 (λ e. omega arith), le-ltb e first_timer (omega arith)) (rw (e1, e2) refl)
