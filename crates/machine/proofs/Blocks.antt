-- A block is handed out, gains or loses a reference, is freed: the invariant is kept.
use mathlib.Core.Bool.{Bool, true, false, cond}
use mathlib.Core.List.{List}
use mathlib.Core.Path.{◌≡◌, refl, sym, ◌∙◌}
use Prim.Native.Nat.{ℕ, ◌+◌, ◌*◌, ◌-◌, ◌≤◌, ◌<◌}
use native.Mathlib.Omega.{arith}
use borrow.Author.Tests.{ltb-true, leb-true, leb-false, le-ltb}
use lib.Dec.{eqb, ltb, leb}
use lib.ListN.{length, get_or, set}
use Rattle.std.proofs.Common.{Option, Some, None}
use Rattle.ground.specs.Bools.{cond_pick}
use Rattle.mail.specs.Box.{box_at, occurrences, one, push_back}
use Rattle.mail.specs.Entry.{entry_of, hand_of}
use Rattle.mail.specs.Laws.{occurrences-back, occurrences-front, block_back}
use Rattle.mail.specs.declared.Hand.{Hand}
use Rattle.mail.specs.declared.Hand.TheVariants.{Block}
use Rattle.pool.specs.Cell.{Cell, handed_out, more, fewer, dropped, most_references}
use Rattle.pool.specs.Laws.{found-lowest, pool-end}
use Rattle.pool.specs.Row.{at, blocks, changed, found, pool_for}
use Rattle.pool.specs.declared.Span.{Span}
use Rattle.machine.proofs.Counts.{
  MakesNoneLive,
  Counted,
  refers,
  more_none,
  fewer_none,
  dropped_none,
  count-dropped,
  count_handed,
  count_free,
  counted-more,
  counted-fewer,
  counted_same,
  references_most,
  same_entry,
  hold-more,
  hold-fewer,
  hold_none,
}
use Rattle.machine.proofs.Parts.{store_changed, store_holds, store_new, mail_back, mail_front, sides_back}
use Rattle.machine.specs.Aside.{set_aside}
use Rattle.machine.specs.Events.{counted, freed_new, new_event, new_in, posted, posted_front, held, released}
use Rattle.machine.specs.Inv.{Inv, is_live, references, count_of, IsSignal, IsEvent, IsBlock, InHand, StoreOk, MailOk, SidesOk}
use Rattle.machine.specs.Numbers.{objects, most_bytes, payload_bytes, most_holds, side_queues, most_aside, capacity, place_of}
use Rattle.machine.specs.Reply.{Areas}
use Rattle.machine.specs.State.{State, Events, size_in, holds_on, side_of, depth_of, room, with_cells, with_marks, with_events, with_boxes, with_sides, with_hand, with_holds}

-- The fields that the blocks and their references stand in.
pub events_inv : (s : State) (cells : List Cell) (e : Events) (boxes sides : List (List ℕ)) (h : Hand) → Inv s →
    StoreOk cells e → MailOk boxes s.objects.depths → SidesOk sides → InHand h → Counted cells (refers e.holds boxes sides h) →
    Inv (with_cells cells (with_events e (with_boxes boxes (with_sides sides (with_hand h s)))))
unfolding references
events_inv s cells e boxes sides h i store mail aside in_hand c = record {
  store = store;
  mail = mail;
  aside = aside;
  seats = i.seats;
  wants = i.wants;
  timers = i.timers;
  in_hand = in_hand;
  counted = c;
}

-- Nothing must hold of the marks.
marks_inv : (s : State) (marks : List ℕ) → Inv s → Inv (with_marks marks s)
unfolding references
marks_inv s marks i = record {
  store = i.store;
  mail = i.mail;
  aside = i.aside;
  seats = i.seats;
  wants = i.wants;
  timers = i.timers;
  in_hand = i.in_hand;
  counted = i.counted;
}

-- Block b as f makes it.
module _ (s : State) (b : ℕ) (i : Inv s) (l : b < blocks) where
  stored : (f : Cell → Cell) → MakesNoneLive f → StoreOk (changed f s.cells b) s.events
  stored f none = store_changed s.cells s.events b i.store l f none

  with_holds_lem : (f : Cell → Cell) (n : ℕ) → MakesNoneLive f → n ≤ most_holds →
      Counted (changed f s.cells b) (refers (set s.events.holds b n) s.boxes s.sides s.hand) →
      Inv (with_holds (set s.events.holds b n) (with_cells (changed f s.cells b) s))
  with_holds_lem f n none h c =
      events_inv s (changed f s.cells b) (with_holds (set s.events.holds b n) s).events s.boxes s.sides s.hand i
      (store_holds (changed f s.cells b) s.events b (stored f none) l n h)
      i.mail
      i.aside
      i.in_hand
      c

  few : references s b < most_references
  few = omega (arith, references_most s b i)

  -- a live block gets a reference more: an entry, a side entry, or a hold
  module _ (lives : is_live (at s.cells b) ≡ true) where
    pushed : (boxes : List (List ℕ)) → MailOk boxes s.objects.depths →
        ((k : ℕ) → occurrences (entry_of (Block k)) boxes ≡ occurrences (entry_of (Block k)) s.boxes + one (eqb (entry_of (Block b)) (entry_of (Block k)))) →
        Inv (with_boxes boxes (counted s b))
    unfolding references
    pushed boxes mail gain =
        events_inv s (changed more s.cells b) s.events boxes s.sides s.hand i (stored more more_none) mail i.aside i.in_hand
        (counted-more s.cells (references s) (refers s.events.holds boxes s.sides s.hand) b i.store.cells-length l i.counted lives few
        (λ k h. omega (arith, gain k, same_entry b k)))

    is-event : IsEvent (hand_of (entry_of (Block b)))
    unfolding IsEvent
    is-event = rw (block_back b (omega arith)) l

    module _ (p : ℕ) (low : 1 ≤ p) (high : p ≤ objects) (free : 0 < room s p) where
      fits : length (box_at s.boxes (p - 1)) < depth_of s p
      fits = omega arith

      pub posted_keeps : Inv (posted s b p)
      unfolding posted
      posted_keeps =
          pushed _ (mail_back s.boxes s.objects.depths (p - 1) i.mail (omega arith) (entry_of (Block b)) fits is-event)
          (λ k. occurrences-back s.boxes (p - 1) (omega arith) (entry_of (Block b)) (entry_of (Block k)))

      pub posted_front_keeps : Inv (posted_front s b p)
      unfolding posted_front
      posted_front_keeps =
          pushed _ (mail_front s.boxes s.objects.depths (p - 1) i.mail (omega arith) (entry_of (Block b)) fits is-event)
          (λ k. occurrences-front s.boxes (p - 1) (omega arith) (entry_of (Block b)) (entry_of (Block k)))

    pub set_aside_keeps : (q : ℕ) → q < side_queues → length (side_of s q) < most_aside → Inv (set_aside (Block b) q s)
    unfolding set_aside references IsBlock
    set_aside_keeps q low free =
        let e = entry_of (Block b) in
        let is_block : IsBlock (hand_of e) = rw (block_back b (omega arith)) l in
        events_inv s (changed more s.cells b) s.events s.boxes (push_back s.sides q e) s.hand i (stored more more_none) i.mail
        (sides_back s.sides q i.aside low e free is_block)
        i.in_hand
        (counted-more s.cells (references s) _ b i.store.cells-length l i.counted lives few
        (λ k h. omega (arith, occurrences-back s.sides q (omega arith) e (entry_of (Block k)), same_entry b k)))

    pub held_keeps : holds_on s b < most_holds → Inv (held s b)
    unfolding held references
    held_keeps h =
        with_holds_lem more (holds_on s b + 1) more_none (omega arith)
        (counted-more s.cells (references s) _ b i.store.cells-length l i.counted lives few
        (λ k m. omega (arith, hold-more s.events.holds b (omega arith) k)))

  -- a hold fewer
  pub released_keeps : 0 < holds_on s b → Inv (released s b)
  unfolding released references
  released_keeps h =
      with_holds_lem fewer (holds_on s b - 1) fewer_none (omega (arith, i.store.held b))
      (counted-fewer s.cells (references s) _ b i.store.cells-length l i.counted
      (λ k m. omega (arith, hold-fewer s.events.holds b (omega arith) k h)))

  -- a new block is freed; any other stays
  pub freed_new_keeps : Inv (freed_new s b)
  unfolding references
  freed_new_keeps =
      events_inv s (changed dropped s.cells b) s.events s.boxes s.sides s.hand i (stored dropped dropped_none) i.mail i.aside i.in_hand
      (counted_same s.cells (references s) (references s) b i.store.cells-length l i.counted dropped (count-dropped (at s.cells b)) (λ k h. refl))

-- NEW: what is found is free, is one of the blocks, and is large enough.
pub pool-fits : (n b : ℕ) → n ≤ most_bytes → (pool_for n).from ≤ b → n ≤ capacity b
unfolding pool_for capacity
pool-fits n b h =
    cond_pick Fits (leb n 16) _ _ (λ e m. omega (arith, leb-true n 16 e, at_least)) (λ e.
    cond_pick Fits (leb n 32) _ _ (λ f (m : 32 ≤ b). rw (le-ltb b 32 m) (omega (arith, leb-true n 32 f, at_least_32))) (λ f.
    cond_pick Fits (leb n 64) _ _ (λ g (m : 48 ≤ b). rw (le-ltb b 32 (omega arith), le-ltb b 48 m) h) (λ g m. absurd (omega (arith, leb-false n 64 g)))))
  where
    Fits : Span → Type 0
    Fits pool = pool.from ≤ b → n ≤ cond (ltb b 32) 16 (cond (ltb b 48) 32 64)

    at_least_32 : 32 ≤ cond (ltb b 48) 32 64
    at_least_32 = cond_pick (λ x. 32 ≤ x) (ltb b 48) 32 64 (λ e. omega arith) (λ e. omega arith)

    at_least : 16 ≤ cond (ltb b 32) 16 (cond (ltb b 48) 32 64)
    at_least = cond_pick (λ x. 16 ≤ x) (ltb b 32) 16 _ (λ e. omega arith) (λ e. omega (arith, at_least_32))

module _ (s : State) (g n : ℕ) (i : Inv s) (sig : IsSignal g) (h : n ≤ most_bytes) where
  pub new_event_keeps : (b : ℕ) → found s.cells n ≡ Some b → Inv (new_event s b g n)
  unfolding new_event references
  new_event_keeps b e =
      let w = found-lowest s.cells (pool_for n) b e in
      let l : b < blocks = omega (arith, w.high, pool-end n) in
      let none : count_of (at s.cells b) ≡ 0 = count_free (at s.cells b) w.free_there in
      let unheld : get_or s.events.holds b 0 ≡ 0 = omega (arith, i.counted b l) in
      events_inv (with_marks _ s) (changed handed_out s.cells b)
      (record { signals = set s.events.signals b g; sizes = set s.events.sizes b n; holds = set s.events.holds b 0 })
      s.boxes s.sides s.hand (marks_inv s _ i)
      (store_new s.cells s.events b i.store l handed_out g n sig (pool-fits n b h w.low))
      i.mail
      i.aside
      i.in_hand
      (counted_same s.cells (references s) _ b i.store.cells-length l i.counted handed_out (count_handed (at s.cells b) ∙ sym none)
      (λ k m. omega (arith, hold_none s.events.holds b (omega arith) k unheld)))

  pub new_in_keeps : (f : Option ℕ) (payload : List ℕ) (z : Areas) → found s.cells n ≡ f → Inv (new_in f g n payload s z).state
  unfolding new_in
  new_in_keeps (Some b) payload z e = new_event_keeps b e
  new_in_keeps None payload z e = i

-- READ: the payload of a live block lies in the payload area.
pub place_end : (b : ℕ) → b < blocks → place_of b + capacity b ≤ payload_bytes
unfolding place_of capacity
place_end b l = go (ltb b 32) refl (ltb b 48) refl
  where
    go : (t : Bool) → ltb b 32 ≡ t → (u : Bool) → ltb b 48 ≡ u →
        cond t (16 * b) (cond u (512 + 32 * (b - 32)) (1024 + 64 * (b - 48))) + cond t 16 (cond u 32 64) ≤ payload_bytes
    go true e u f = omega (arith, ltb-true b 32 e)
    go false e true f = omega (arith, ltb-true b 48 f)
    go false e false f = omega arith

pub payload-within : (s : State) (b : ℕ) → Inv s → b < blocks → is_live (at s.cells b) ≡ true → place_of b + size_in s b ≤ payload_bytes
payload-within s b i l lives = omega (arith, place_end b l, i.store.size b lives)
