-- The commands on side queues keep the invariant.
use mathlib.Core.Bool.{Bool, true, false, not, ◌&&◌}
use mathlib.Core.Path.{◌≡◌, refl, sym}
use Prim.Native.Nat.{ℕ, zero, suc, ◌-◌, ◌≤◌, ◌<◌}
use native.Mathlib.Omega.{arith}
use borrow.Author.Tests.{eqb-false, eq-eqb, ne_eqb, leb-false}
use lib.Dec.{eqb}
use lib.ListN.{length}
use Rattle.ground.specs.Bools.{no_yes}
use Rattle.mail.specs.Box.{push_front, took_front, emptied}
use Rattle.mail.specs.Entry.{entry_of, hand_of}
use Rattle.mail.specs.Laws.{occurrences-front, occurrences_took, occurrences-emptied}
use Rattle.mail.specs.declared.Hand.{Hand}
use Rattle.mail.specs.declared.Hand.TheVariants.{Nothing, Block, Timer}
use Rattle.pool.specs.Row.{at, blocks, gone_all}
use Rattle.machine.proofs.Blocks.{events_inv, set_aside_keeps}
use Rattle.machine.proofs.Counts.{refers, live_counted}
use Rattle.machine.proofs.Flush.{let_go_each_lem, gone_counted}
use Rattle.machine.proofs.Parts.{mail_front, sides_took, sides_emptied}
use Rattle.machine.proofs.Tests.{within_low, within_high, within-side, unless-state}
use Rattle.machine.specs.Aside.{is_timer, defer_tests, set_aside, defer, recall_tests, oldest, recalled, recall_done, recall, flush_tests, flushed, flush}
use Rattle.machine.specs.Inv.{Inv, references, count_in_hand, is_live, IsEvent, IsBlock, InHand}
use Rattle.machine.specs.Numbers.{objects, side_queues, most_aside}
use Rattle.machine.specs.Reply.{Areas}
use Rattle.machine.specs.Run.{blocks_in}
use Rattle.machine.specs.State.{State, side_of, room, is_open}

pub block_event : (h : Hand) → IsBlock h → IsEvent h
unfolding IsBlock IsEvent
block_event Nothing is = absurd is
block_event (Block b) is = is
block_event (Timer t g) is = absurd is

-- an event in hand that is no timer's is a block
pub open_block : (h : Hand) → InHand h → is_open h ≡ true → is_timer h ≡ false → IsBlock h
unfolding InHand is_open is_timer IsBlock
open_block Nothing i on off = no_yes on
open_block (Block b) i on off = i
open_block (Timer t g) i on off = no_yes (sym off)

-- where there is an entry to recall, RECALL's test finds a place for it
pub has-place : (n room : ℕ) → (n ≡ 0 → ⊥) → (not (eqb n 0) && eqb room 0) ≡ false → 0 < room
has-place n room ne e = let f : eqb room 0 ≡ false = rw (ne_eqb n 0 ne) at e in omega (arith, eqb-false room 0 f)

module _ (s : State) (i : Inv s) where
  -- a block in hand is live
  pub hand_live : (b : ℕ) → b < blocks → s.hand ≡ Block b → is_live (at s.cells b) ≡ true
  unfolding references count_in_hand
  hand_live b l e =
      let here : count_in_hand s.hand b ≡ 1 = rw (e, eq-eqb b b refl) refl in
      live_counted (at s.cells b) (omega (arith, i.counted b l))

  deferred_keeps : (h : Hand) (q : ℕ) → s.hand ≡ h → q < side_queues → length (side_of s q) < most_aside → Inv (set_aside h q s)
  unfolding set_aside InHand
  deferred_keeps Nothing q e l m = i
  deferred_keeps (Block b) q e l m = let k : b < blocks = rw e at i.in_hand in set_aside_keeps s b i k (hand_live b k e) q l m
  deferred_keeps (Timer t g) q e l m = i

  module _ (q : ℕ) (l : q < side_queues) where
    pub recalled_keeps : (p : ℕ) → 1 ≤ p → p ≤ objects → 0 < length (side_of s q) → 0 < room s p → Inv (recalled s q p)
    unfolding recalled references
    recalled_keeps p low high some free =
        let e = oldest (side_of s q) in
        events_inv s s.cells s.events (push_front s.boxes (p - 1) e) (took_front s.sides q) s.hand i i.store
        (mail_front s.boxes s.objects.depths (p - 1) i.mail (omega arith) e (omega arith) (block_event (hand_of e) (i.aside.entries q 0 some)))
        (sides_took s.sides q i.aside l)
        i.in_hand
        (λ b h.
        omega (
          arith,
          i.counted b h,
          occurrences-front s.boxes (p - 1) (omega (arith, i.mail.boxes-length)) e (entry_of (Block b)),
          occurrences_took s.sides q some (entry_of (Block b)),
        ))

    pub flushed_keeps : Inv (flushed s q)
    unfolding flushed references
    flushed_keeps =
        let gone =
        gone_counted s.events (refers s.events.holds s.boxes (emptied s.sides q) s.hand) (side_of s q) s.cells (references s)
        (i.aside.entries q) i.store i.counted
        (λ k h. omega (arith, occurrences-emptied s.sides q (omega (arith, i.aside.sides_length)) (entry_of (Block k)))) in
        rw (let_go_each_lem (side_of s q) s (omega (arith, i.store.cells-length)))
        (events_inv s (gone_all s.cells (blocks_in (side_of s q))) s.events s.boxes (emptied s.sides q) s.hand i gone.store i.mail
        (sides_emptied s.sides q i.aside l) i.in_hand gone.counted)

-- The commands.
module _ (s : State) (z : Areas) (i : Inv s) where
  pub defer_keeps : (spoilt : Bool) (q : ℕ) → Inv (defer spoilt q s z).state
  unfolding defer defer_tests
  defer_keeps spoilt q =
      unless-state s z _ Inv i (defer_tests spoilt q s) refl (λ t.
      deferred_keeps s i s.hand q refl (within-side q t.1.0) (omega (arith, leb-false)))

  recall_done_keeps : (n q p : ℕ) → length (side_of s q) ≡ n → q < side_queues → 1 ≤ p → p ≤ objects → (0 < n → 0 < room s p) → Inv (recall_done n q p s z).state
  unfolding recall_done
  recall_done_keeps zero q p e l low high free = i
  recall_done_keeps (suc n) q p e l low high free = recalled_keeps s i q l p low high (omega arith) (free (omega arith))

  pub recall_keeps : (spoilt : Bool) (q p : ℕ) → Inv (recall spoilt q p s z).state
  unfolding recall recall_tests
  recall_keeps spoilt q p =
      unless-state s z _ Inv i (recall_tests spoilt q p s) refl (λ t.
      recall_done_keeps (length (side_of s q)) q p refl (within-side q t.1.0) (omega (arith, within_low)) (omega (arith, within_high))
      (λ h. has-place (length (side_of s q)) (room s p) (λ e. omega arith) t.1.1.1.1.0))

  pub flush_keeps : (spoilt : Bool) (q : ℕ) → Inv (flush spoilt q s z).state
  unfolding flush flush_tests
  flush_keeps spoilt q = unless-state s z _ Inv i (flush_tests spoilt q) refl (λ t. flushed_keeps s i q (within-side q t.1.0))
