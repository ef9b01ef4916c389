-- DEFER, RECALL and FLUSH: what their tests say where none of them holds, and what is done with the entries.
use mathlib.Core.Bool.{Bool}
use mathlib.Core.Path.{◌≡◌, refl, sym}
use Prim.Native.Nat.{ℕ, zero, suc, ◌-◌, ◌<◌, ◌≤◌}
use native.Mathlib.Omega.{arith}
use borrow.Author.Tests.{leb-false, not-false}
use lib.ListN.{length}
use Rattle.machine.proofs.Flush.{let_go_each_lem}
use Rattle.machine.proofs.KeepsAside.{has-place, open_block}
use Rattle.machine.proofs.Tests.{none_holds, within_low, within_high, within-side}
use Rattle.machine.specs.Aside.{defer_tests, set_aside, recall_tests, recalled, recall_done, flush_tests, flushed}
use Rattle.machine.specs.Events.{counted}
use Rattle.machine.specs.Inv.{Inv, IsBlock}
use Rattle.machine.specs.Numbers.{most_aside, objects, side_queues}
use Rattle.machine.specs.Reply.{Areas, answer, done, lowest}
use Rattle.machine.specs.Run.{block_of, blocks_in}
use Rattle.machine.specs.State.{State, box_of, room, side_of, with_cells, with_sides}
use Rattle.mail.specs.Box as box
use Rattle.mail.specs.Box.{emptied, push_back}
use Rattle.mail.specs.Entry.{hand_of}
use Rattle.mail.specs.Laws.{block_entry}
use Rattle.mail.specs.declared.Hand.{Hand}
use Rattle.mail.specs.declared.Hand.TheVariants.{Nothing, Block, Timer}
use Rattle.pool.specs.Row.{gone_all}

-- DEFER: the side queue is one of them, it has room, and a block is in hand.
pub record Deferrable (s : State) (q : ℕ) : Type 0 where
  pub side : q < side_queues
  pub free : length (side_of s q) < most_aside
  pub block : IsBlock s.hand

pub deferrable : (spoilt : Bool) (q : ℕ) (s : State) → 0 ≡ lowest (defer_tests spoilt q s) → Inv s → Deferrable s q
unfolding defer_tests
deferrable spoilt q s e i =
    let h = none_holds (defer_tests spoilt q s) refl (sym e) in
    record {
      side = within-side q h.1.0;
      free = leb-false _ _ h.1.1.1.1.0;
      block = open_block s.hand i.in_hand (not-false _ h.1.1.0) h.1.1.1.0;
    }

-- what is set aside is the block's entry, and the block counts it
pub set_aside_is : (h : Hand) (e q : ℕ) (s : State) → hand_of e ≡ h → IsBlock h → set_aside h q s ≡ with_sides (push_back s.sides q e) (counted s (block_of h))
unfolding IsBlock set_aside block_of
set_aside_is Nothing e q s w is = absurd is
set_aside_is (Block b) e q s w is = rw (block_entry e b w) refl
set_aside_is (Timer t g) e q s w is = absurd is

-- RECALL of an entry: the side queue is one of them, the object one of the objects, and its mailbox has a place.
pub record Recallable (s : State) (q p : ℕ) : Type 0 where
  pub side : q < side_queues
  pub low : 1 ≤ p
  pub high : p ≤ objects
  pub free : length (box_of s p) < box.room

pub recallable : (spoilt : Bool) (q p : ℕ) (s : State) → 0 ≡ lowest (recall_tests spoilt q p s) → Inv s → (length (side_of s q) ≡ 0 → ⊥) → Recallable s q p
unfolding recall_tests
recallable spoilt q p s e i ne =
    let h = none_holds (recall_tests spoilt q p s) refl (sym e) in
    let f : 0 < room s p = has-place _ _ ne h.1.1.1.1.0 in
    record {
      side = within-side q h.1.0;
      low = within_low 1 objects p h.1.1.0;
      high = within_high 1 objects p h.1.1.0;
      free = omega (arith, i.mail.deep (p - 1));
    }

-- what is done: with no entry, and with n of them
module _ (n q p : ℕ) (s : State) (z : Areas) where
  pub recall_none : n ≡ 0 → recall_done n q p s z ≡ answer s (done 0 0) z
  unfolding recall_done
  recall_none e = rw e refl

  pub recall_some : (n ≡ 0 → ⊥) → recall_done n q p s z ≡ answer (recalled s q p) (done 1 0) z
  unfolding recall_done
  recall_some ne = some n ne
    where
      some : (n : ℕ) → (n ≡ 0 → ⊥) → recall_done n q p s z ≡ answer (recalled s q p) (done 1 0) z
      some zero ne = absurd (ne refl)
      some (suc n) ne = refl

-- FLUSH: the blocks of its entries are let go, one by one.
pub flush-within : (spoilt : Bool) (q : ℕ) → 0 ≡ lowest (flush_tests spoilt q) → q < side_queues
unfolding flush_tests
flush-within spoilt q e = within-side q (none_holds (flush_tests spoilt q) refl (sym e)).1.0

pub flushed-is : (s : State) (q : ℕ) → length s.cells ≤ 255 → with_sides (emptied s.sides q) (with_cells (gone_all s.cells (blocks_in (side_of s q))) s) ≡ flushed s q
unfolding flushed
flushed-is s q m = rw (let_go_each_lem (side_of s q) s m) refl
