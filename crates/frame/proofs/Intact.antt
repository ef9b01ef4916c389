-- Nothing is handed out but intact frames: wherever a frame is handed out, the input up to there ends in that frame's bytes.
use Rattle.std.proofs.Common.{◌≡◌, ℕ, suc, ◌-◌, ◌<◌, ◌≤◌, Bool, true, false, cond, eqb, ltb, leb, List, [], ◌∷◌, ◌++◌, length, get_or, take, drop, sym, refl, ap, ◌∙◌, inl, inr, append_assoc, append-nil, arith, length-append, length-drop, length-take-le, drop-cons, get_or-take, take-suc, ltb-true, eqb-true, leb-true}
use mathlib.Core.List.{nil≢cons, head-eq_of_cons-eq}
use lib.Seq.{take-length}
use Rattle.ground.specs.Bools.{and_left, and_right}
use Rattle.frame.specs.Demands.{OnlyIntact}
use Rattle.frame.specs.Reading.{Part, State, Last, Frame, fresh, plain, escaped, spoilt, pushed, taken, front, fits, frame, ended, given, after, after_all}
use Rattle.frame.specs.Terms.{EndsIn, Intact}
use Rattle.frame.specs.Wire.{sent, sent_all, check_of, unescaped, frame_bytes}
use Rattle.frame.proofs.Cutting.{last-given}
use Rattle.frame.proofs.Sending.{sent-snoc}

-- What the part that a state has says of the input.
unfoldable Holds : Part → List ℕ → Type 0
Holds (plain u) l = EndsIn l (sent_all u) × (length u ≤ 96)
Holds (escaped u) l = EndsIn l (sent_all u ++ (0x7D ∷ [])) × (length u ≤ 96)
Holds spoilt l = Unit {0}

ends_on : (l t v : List ℕ) → EndsIn l t → EndsIn (l ++ v) (t ++ v)
ends_on l t v s = record { before = s.before; start = s.start; whole = ap (λ r. r ++ v) s.whole ∙ append_assoc s.before t v }

ends_new : (l : List ℕ) → EndsIn (l ++ (0x7E ∷ [])) []
ends_new l = record { before = l ++ (0x7E ∷ []); start = inr (l, refl); whole = sym (append-nil (l ++ (0x7E ∷ []))) }

holds_pushed : (u l : List ℕ) (x : ℕ) → EndsIn l (sent_all u ++ sent x) → Holds (pushed u x) l
unfolding Holds pushed
holds_pushed u l x s = go (ltb (length u) 96) refl
  where
    go : (t : Bool) → ltb (length u) 96 ≡ t → Holds (pushed u x) l
    go true e = let h : length u < 96 = ltb-true _ _ e in rw e (rw (sent-snoc u x) s, rw (length-append u (x ∷ [])) (omega arith))
    go false e = rw e tt

-- a byte that is not 0x7E
holds_plain : (u l : List ℕ) (b : ℕ) → eqb b 0x7E ≡ false → Holds (plain u) l → Holds (taken (plain u) b) (l ++ (b ∷ []))
unfolding Holds taken sent
holds_plain u l b ne h = go (eqb b 0x7D) refl
  where
    go : (t : Bool) → eqb b 0x7D ≡ t → Holds (taken (plain u) b) (l ++ (b ∷ []))
    go true e = rw (eqb-true b 0x7D e) (ends_on l (sent_all u) (0x7D ∷ []) h.0, h.1)
    go false e = rw e (holds_pushed u (l ++ (b ∷ [])) b (rw (ne, e) (ends_on l (sent_all u) (b ∷ []) h.0)))

holds_escaped : (u l : List ℕ) (b : ℕ) → Holds (escaped u) l → Holds (taken (escaped u) b) (l ++ (b ∷ []))
unfolding Holds taken sent
holds_escaped u l b h = go (eqb b 0x5E) (eqb b 0x5D) refl refl
  where
    on : (x : ℕ) → EndsIn (l ++ (x ∷ [])) (sent_all u ++ (0x7D ∷ x ∷ []))
    on x = rw (append_assoc (sent_all u) (0x7D ∷ []) (x ∷ [])) at (ends_on l (sent_all u ++ (0x7D ∷ [])) (x ∷ []) h.0)

    go : (t v : Bool) → eqb b 0x5E ≡ t → eqb b 0x5D ≡ v → Holds (taken (escaped u) b) (l ++ (b ∷ []))
    go true v e f = rw (eqb-true b 0x5E e) (holds_pushed u (l ++ (0x5E ∷ [])) 0x7E (on 0x5E))
    go false true e f = rw (eqb-true b 0x5D f) (holds_pushed u (l ++ (0x5D ∷ [])) 0x7D (on 0x5D))
    go false false e f = rw (e, f) tt

holds_taken : (p : Part) (l : List ℕ) (b : ℕ) → eqb b 0x7E ≡ false → Holds p l → Holds (taken p b) (l ++ (b ∷ []))
unfolding Holds taken
holds_taken (plain u) l b ne h = holds_plain u l b ne h
holds_taken (escaped u) l b ne h = holds_escaped u l b h
holds_taken spoilt l b ne h = tt

-- any byte, and any number of them
holds_after : (s : State) (l : List ℕ) (b : ℕ) → Holds s.part l → Holds (after s b).part (l ++ (b ∷ []))
unfolding Holds after sent_all
holds_after s l b h = go (eqb b 0x7E) refl
  where
    go : (t : Bool) → eqb b 0x7E ≡ t → Holds (after s b).part (l ++ (b ∷ []))
    go true e = rw (eqb-true b 0x7E e) (ends_new l, omega arith)
    go false e = rw e (holds_taken s.part l b e h)

holds_all : (s : State) (k l : List ℕ) → Holds s.part k → Holds (after_all s l).part (k ++ l)
unfolding after_all
holds_all s k [] h = rw append-nil h
holds_all s k (b ∷ l) h = rw (append_assoc k (b ∷ []) l) at (holds_all (after s b) (k ++ (b ∷ [])) l (holds_after s k b h))

-- bytes that fit are those of a frame
module _ (u : List ℕ) (h : fits u ≡ true) where
  long : 3 ≤ length u
  unfolding fits
  long = leb-true 3 (length u) (and_left _ _ h)

  check : get_or u (length u - 1) 0 ≡ check_of (front u)
  unfolding fits
  check = eqb-true _ _ (and_right (leb 3 (length u)) _ h)

  front_length : length (front u) ≡ length u - 1
  unfolding front
  front_length = length-take-le (length u - 1) u (omega arith)

  front_at : (i : ℕ) → i < 2 → get_or (front u) i 0 ≡ get_or u i 0
  unfolding front
  front_at i l = get_or-take (length u - 1) u i 0 (omega (arith, long))

  head : get_or u 0 0 ∷ get_or u 1 0 ∷ drop 2 (front u) ≡ front u
  head =
      sym (drop-cons (front u) 0 0 (omega (arith, long, front_length))
      ∙ rw (drop-cons (front u) 1 0 (omega (arith, long, front_length)), front_at 0 (omega arith), front_at 1 (omega arith)) refl)

  put_back : front u ++ (get_or u (length u - 1) 0 ∷ []) ≡ u
  unfolding front
  put_back =
      let e : suc (length u - 1) ≡ length u = omega (arith, long) in
      sym (take-suc u (length u - 1) 0 (omega (arith, long))) ∙ ap (λ n. take n u) e ∙ take-length u

  rebuilt : unescaped (get_or u 0 0) (get_or u 1 0) (drop 2 (front u)) ≡ u
  unfolding unescaped
  rebuilt = ap (λ l. l ++ (check_of l ∷ [])) head ∙ ap (λ c. front u ++ (c ∷ [])) (sym check) ∙ put_back

-- A frame that is handed out in a state is that of the bytes that it holds.
abbrev frame_of : Last → List ℕ → Frame
frame_of m u = frame m (get_or u 0 0) (get_or u 1 0) (drop 2 (front u))

record Held (s : State) (b : ℕ) (f : Frame) : Type 0 where
  bytes : List ℕ
  part : s.part ≡ plain bytes
  flag : b ≡ 0x7E
  good : fits bytes ≡ true
  same : f ≡ frame_of s.last bytes

not_one : {A : Type 0} (f : Frame) → ◌≡◌ {A = List Frame} [] (f ∷ []) → A
not_one f e = absurd (nil≢cons e)

held : (s : State) (b : ℕ) (f : Frame) → given s b ≡ f ∷ [] → Held s b f
unfolding given ended
held s b f h = go (eqb b 0x7E) refl s.part refl
  where
    fit : (u : List ℕ) → s.part ≡ plain u → b ≡ 0x7E → (t : Bool) → fits u ≡ t → cond t (frame_of s.last u ∷ []) [] ≡ f ∷ [] → Held s b f
    fit u e z true g k = record { bytes = u; part = e; flag = z; good = g; same = sym (head-eq_of_cons-eq k) }
    fit u e z false g k = not_one f k

    go : (t : Bool) → eqb b 0x7E ≡ t → (p : Part) → s.part ≡ p → Held s b f
    go false e p q = not_one f (rw e at h)
    go true e (plain u) q = fit u q (eqb-true b 0x7E e) (fits u) refl (rw (e, q) at h)
    go true e (escaped u) q = not_one f (rw (e, q) at h)
    go true e spoilt q = not_one f (rw (e, q) at h)

intact : (l : List ℕ) (b : ℕ) (f : Frame) → Held (after_all fresh l) b f → Intact l b f
unfolding Holds frame frame_bytes sent_all
intact l b f e =
    let u = e.bytes in
    let s : Holds (after_all fresh l).part l = holds_all fresh [] l (record { before = []; start = inl refl; whole = refl }, omega arith) in
    let p : Holds (plain u) l = rw e.part at s in
    rw (e.same, e.flag) (record {
      bytes = rw (rebuilt u e.good) (ends_on l (sent_all u) (0x7E ∷ []) p.0);
      short = rw (length-drop 2 (front u), front_length u e.good) (omega (arith, p.1));
      gap = rw (last-given fresh l) refl;
    })

-- a byte completes at most one frame
one_at_most : (s : State) (b : ℕ) → length (given s b) ≤ 1
unfolding given ended
one_at_most s b = go (eqb b 0x7E) s.part
  where
    by : (t : Bool) (f : Frame) → length (cond t (f ∷ []) []) ≤ 1
    by true f = omega arith
    by false f = omega arith

    go : (t : Bool) (p : Part) → length (cond t (ended p s.last) []) ≤ 1
    go false p = omega arith
    go true (plain u) = by (fits u) _
    go true (escaped u) = omega arith
    go true spoilt = omega arith

pub only_intact : OnlyIntact
only_intact l b = (one_at_most (after_all fresh l) b, λ f h. intact l b f (held (after_all fresh l) b f h))
