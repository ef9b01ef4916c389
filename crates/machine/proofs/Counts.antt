-- Blocks count what refers to them: one block, the row of all, and the references of a state.
use mathlib.Core.Bool.{true, false}
use mathlib.Core.List.{List}
use mathlib.Core.Path.{◌≡◌, refl, sym, ◌∙◌}
use Prim.Native.Nat.{ℕ, zero, suc, ◌+◌, ◌*◌, ◌-◌, ◌≤◌, ◌<◌}
use native.Mathlib.Decide.{ℕ_discrete}
use native.Mathlib.Omega.{arith}
use borrow.Author.Tests.{eq-eqb, ne_eqb, eqb-true, eqb-false, ltb-false, lt-leb}
use lib.Dec.{eqb, ltb}
use lib.ListN.{length, get_or, set}
use lib.Seq.{get_or-set_same, get_or-set_other}
use Rattle.ground.specs.Bools.{no_yes, cond_pick}
use Rattle.mail.specs.Box.{room, box_at, occurrences, one}
use Rattle.mail.specs.Entry.{first_timer, signals, entry_of, hand_of, timer_of}
use Rattle.mail.specs.Laws.{occurrences_most}
use Rattle.mail.specs.declared.Hand.{Hand}
use Rattle.mail.specs.declared.Hand.TheVariants.{Nothing, Block, Timer}
use Rattle.pool.specs.Cell.{Cell, free, live, retired, absent, back, is_free, stale_for, handed_out, more, fewer, dropped, most_references}
use Rattle.pool.specs.Laws.{back_all, changed-here, changed_other}
use Rattle.pool.specs.Row.{at, blocks, changed, stale_at}
use Rattle.machine.specs.Inv.{Inv, count_in_hand, references, count_of, is_live}
use Rattle.machine.specs.Numbers.{objects, most_holds, side_queues, most_aside}
use Rattle.machine.specs.State.{State}

-- One block: what each operation makes of its count, and that none but handing out makes it live.
abbrev pub MakesNoneLive : (Cell → Cell) → Type 0
MakesNoneLive f = (c : Cell) → is_live (f c) ≡ true → is_live c ≡ true

pub more_live : (c : Cell) → is_live (more c) ≡ is_live c
unfolding is_live more
more_live (free g) = refl
more_live (live g n) = refl
more_live (retired g) = refl
more_live absent = refl

pub more_none : MakesNoneLive more
more_none c h = sym (more_live c) ∙ h

pub fewer_none : MakesNoneLive fewer
unfolding is_live fewer
fewer_none (free g) h = h
fewer_none (live g n) h = refl
fewer_none (retired g) h = h
fewer_none absent h = h

pub dropped_none : MakesNoneLive dropped
unfolding is_live dropped
dropped_none (free g) h = h
dropped_none (live g n) h = refl
dropped_none (retired g) h = h
dropped_none absent h = h

pub count-more : (c : Cell) → is_live c ≡ true → count_of c < most_references → count_of (more c) ≡ count_of c + 1
unfolding is_live count_of more
count-more (free g) e h = no_yes e
count-more (live g n) e h = rw (lt-leb most_references n h) refl
count-more (retired g) e h = no_yes e
count-more absent e h = no_yes e

-- a block that went back counts nothing, and is not live
pub count-back : (g : ℕ) → count_of (back g) ≡ 0
unfolding count_of
count-back g = back_all (λ c. count_of c ≡ 0) g (λ h. refl) (λ h. refl)

pub back_not_live : (g : ℕ) → is_live (back g) ≡ false
unfolding is_live
back_not_live g = back_all (λ c. is_live c ≡ false) g (λ h. refl) (λ h. refl)

pub count-fewer : (c : Cell) → count_of (fewer c) ≡ count_of c - 1
unfolding count_of fewer
count-fewer (free g) = refl
count-fewer (live g zero) = refl
count-fewer (live g (suc zero)) = count-back g
count-fewer (live g (suc (suc n))) = omega arith
count-fewer (retired g) = refl
count-fewer absent = refl

pub count-dropped : (c : Cell) → count_of (dropped c) ≡ count_of c
unfolding count_of dropped
count-dropped (free g) = refl
count-dropped (live g zero) = count-back g
count-dropped (live g (suc n)) = refl
count-dropped (retired g) = refl
count-dropped absent = refl

pub count_handed : (c : Cell) → count_of (handed_out c) ≡ 0
unfolding count_of handed_out
count_handed c = refl

pub count_free : (c : Cell) → is_free c ≡ true → count_of c ≡ 0
unfolding count_of is_free
count_free (free g) e = refl
count_free (live g n) e = no_yes e
count_free (retired g) e = refl
count_free absent e = refl

-- a block that counts a reference is live
pub live_counted : (c : Cell) → 0 < count_of c → is_live c ≡ true
unfolding count_of is_live
live_counted (free g) h = absurd (omega arith)
live_counted (live g n) h = refl
live_counted (retired g) h = absurd (omega arith)
live_counted absent h = absurd (omega arith)

-- a handle that is not stale is one of a live block
pub live_handle : (cells : List Cell) (b gen : ℕ) → stale_at cells b gen ≡ false → is_live (at cells b) ≡ true
unfolding stale_at stale_for is_live
live_handle cells b gen e = go (at cells b) e
  where
    go : (c : Cell) → stale_for c gen ≡ false → is_live c ≡ true
    go (free g) h = no_yes (sym h)
    go (live g n) h = refl
    go (retired g) h = no_yes (sym h)
    go absent h = no_yes (sym h)

-- The row: r says of each block what refers to it, t what does so after a change of block b.
abbrev pub Counted : List Cell → (ℕ → ℕ) → Type 0
Counted cells r = (b : ℕ) → b < blocks → count_of (at cells b) ≡ r b

module _ (cells : List Cell) (r t : ℕ → ℕ) (b : ℕ) (all : length cells ≡ blocks) (l : b < blocks) (c : Counted cells r) where
  counted-changed : (f : Cell → Cell) → ((k : ℕ) → k < blocks → (k ≡ b → ⊥) → t k ≡ r k) → count_of (f (at cells b)) ≡ t b →
      Counted (changed f cells b) t
  counted-changed f other here k h = go (ℕ_discrete k b)
    where
      go : Dec (k ≡ b) → count_of (at (changed f cells b) k) ≡ t k
      go (yes e) = rw (e, changed-here f cells b (omega arith)) here
      go (no ne) = rw (changed_other f cells b k ne) (c k h ∙ sym (other k h ne))

  one-here : one (eqb b b) ≡ 1
  one-here = rw (eq-eqb b b refl)

  one_other : (k : ℕ) → (k ≡ b → ⊥) → one (eqb b k) ≡ 0
  one_other k ne = rw (ne_eqb b k (λ e. ne (sym e)))

  pub counted-more : is_live (at cells b) ≡ true → r b < most_references → ((k : ℕ) → k < blocks → t k ≡ r k + one (eqb b k)) → Counted (changed more cells b) t
  counted-more e m gain =
      let h : count_of (at cells b) < most_references = omega (arith, c b l) in
      counted-changed more
      (λ k h ne. omega (arith, gain k h, one_other k ne))
      (omega (arith, count-more (at cells b) e h, gain b l, c b l, one-here))

  pub counted-fewer : ((k : ℕ) → k < blocks → t k + one (eqb b k) ≡ r k) → Counted (changed fewer cells b) t
  counted-fewer loss =
      counted-changed fewer
      (λ k h ne. omega (arith, loss k h, one_other k ne))
      (omega (arith, count-fewer (at cells b), loss b l, c b l, one-here))

  pub counted_same : (f : Cell → Cell) → count_of (f (at cells b)) ≡ count_of (at cells b) → ((k : ℕ) → k < blocks → t k ≡ r k) → Counted (changed f cells b) t
  counted_same f e same = counted-changed f (λ k h ne. same k h) (e ∙ c b l ∙ sym (same b l))

-- The references: entries among the mailboxes and the side queues, holds, the event in hand.
abbrev pub refers : List ℕ → List (List ℕ) → List (List ℕ) → Hand → ℕ → ℕ
refers holds boxes sides h b = occurrences (entry_of (Block b)) boxes + occurrences (entry_of (Block b)) sides + get_or holds b 0 + count_in_hand h b

-- one hold more, one fewer
module _ (l : List ℕ) (b : ℕ) (h : b < length l) (k : ℕ) where
  at_or_not : (v : ℕ) (P : ℕ → ℕ → ℕ → Type 0) → P v (get_or l b 0) 1 → P (get_or l k 0) (get_or l k 0) 0 → P (get_or (set l b v) k 0) (get_or l k 0) (one (eqb b k))
  at_or_not v P here there = go (ℕ_discrete b k)
    where
      go : Dec (b ≡ k) → P (get_or (set l b v) k 0) (get_or l k 0) (one (eqb b k))
      go (yes e) = rw (← e, get_or-set_same l b v 0 h, eq-eqb b b refl) here
      go (no ne) = rw (get_or-set_other l b k v 0 (λ e. ne (sym e)), ne_eqb b k ne) there

  pub hold-more : get_or (set l b (get_or l b 0 + 1)) k 0 ≡ get_or l k 0 + one (eqb b k)
  hold-more = at_or_not (get_or l b 0 + 1) (λ x y n. x ≡ y + n) refl (omega arith)

  pub hold-fewer : 0 < get_or l b 0 → get_or (set l b (get_or l b 0 - 1)) k 0 + one (eqb b k) ≡ get_or l k 0
  hold-fewer m = at_or_not (get_or l b 0 - 1) (λ x y n. x + n ≡ y) (omega arith) (omega arith)

  -- a place that has 0 already
  pub hold_none : get_or l b 0 ≡ 0 → get_or (set l b 0) k 0 ≡ get_or l k 0
  hold_none e = at_or_not 0 (λ x y n. x ≡ y) (sym e) refl

pub hand_most : (h : Hand) (b : ℕ) → count_in_hand h b ≤ 1
unfolding count_in_hand
hand_most Nothing b = omega arith
hand_most (Block x) b = cond_pick (λ k. k ≤ 1) (eqb x b) 1 0 (λ e. omega arith) (λ e. omega arith)
hand_most (Timer t g) b = omega arith

-- at most as many entries as there are places, the holds and the hand
pub references_most : (s : State) (b : ℕ) → Inv s → references s b ≤ room * objects + most_aside * side_queues + most_holds + 1
unfolding references
references_most s b i =
    let m : (q : ℕ) → length (box_at s.boxes q) ≤ room = λ q. omega (arith, i.mail.room q, i.mail.deep q) in
    omega (
      arith,
      occurrences_most s.boxes (entry_of (Block b)) room m,
      occurrences_most s.sides (entry_of (Block b)) most_aside i.aside.room,
      i.store.held b,
      hand_most s.hand b,
    )

-- an entry among the mailboxes, and the event that it stands for in hand, refer to the same block
pub same_entry : (b k : ℕ) → one (eqb (entry_of (Block b)) (entry_of (Block k))) ≡ one (eqb b k)
unfolding entry_of
same_entry b k = go (ℕ_discrete b k)
  where
    go : Dec (b ≡ k) → one (eqb (1 + b) (1 + k)) ≡ one (eqb b k)
    go (yes e) = rw (eq-eqb b k e, eq-eqb (1 + b) (1 + k) (omega arith))
    go (no ne) = rw (ne_eqb b k ne, ne_eqb (1 + b) (1 + k) (λ e. ne (omega arith)))

pub other_entry : (t g k : ℕ) → k < blocks → one (eqb (entry_of (Timer t g)) (entry_of (Block k))) ≡ 0
unfolding entry_of
other_entry t g k h = rw (ne_eqb (first_timer + signals * t + g) (1 + k) (λ e. omega arith))

pub entry_in_hand : (e k : ℕ) → k < blocks → count_in_hand (hand_of e) k ≡ one (eqb e (entry_of (Block k)))
unfolding hand_of entry_of count_in_hand
entry_in_hand e k h =
    cond_pick is (eqb e 0) Nothing _ (λ z. rw (ne_eqb e (1 + k) (λ q. omega (arith, eqb-true e 0 z)))) (λ z.
    cond_pick is (ltb e first_timer) (Block (e - 1)) (timer_of (e - first_timer)) (λ l. block (eqb-false e 0 z)) (λ l.
    rw (ne_eqb e (1 + k) (λ q. omega (arith, ltb-false e first_timer l)))))
  where
    is : Hand → Type 0
    is x = count_in_hand x k ≡ one (eqb e (1 + k))

    block : (e ≡ 0 → ⊥) → one (eqb (e - 1) k) ≡ one (eqb e (1 + k))
    block ne = let z : 1 + (e - 1) ≡ e = omega arith in rw z at (sym (same_entry (e - 1) k))
