-- POST and POSTFRONT: what it says that none of their tests holds, and that they are the same.
use mathlib.Core.Bool.{Bool}
use mathlib.Core.Path.{◌≡◌, refl, sym}
use Prim.Native.Nat.{ℕ, ◌-◌, ◌<◌, ◌≤◌}
use native.Mathlib.Omega.{arith}
use borrow.Author.Tests.{leb-false}
use lib.ListN.{length, get_or}
use Rattle.machine.proofs.Tests.{none_holds, within_block, within_low, within_high}
use Rattle.machine.specs.Events.{post_tests, post_front_tests}
use Rattle.machine.specs.Inv.{Inv}
use Rattle.machine.specs.Numbers.{blocks, objects, outside}
use Rattle.machine.specs.Reply.{lowest}
use Rattle.machine.specs.State as State
use Rattle.machine.specs.State.{State, box_of}
use Rattle.mail.specs.Box.{room}
use Rattle.mail.specs.View.{boxes_at, entries, no_ring}
use Rattle.state.specs.View.{state_of}
use Rattle.state.specs.declared.Kernel.{Kernel}

-- The block is one of the blocks, the object one of the objects, and its mailbox has a place.
pub record Postable (s : State) (b p : ℕ) : Type 0 where
  pub block : b < blocks
  pub low : 1 ≤ p
  pub high : p ≤ objects
  pub free : length (box_of s p) < room

pub postable : (s : State) (spoilt : Bool) (b gen p margin : ℕ) → 0 ≡ lowest (post_tests spoilt b gen p margin s) → Inv s → Postable s b p
unfolding post_tests
postable s spoilt b gen p margin e i =
    let h = none_holds (post_tests spoilt b gen p margin s) refl (sym e) in
    let f : margin < State.room s p = leb-false _ _ h.1.1.1.1.1.1.0 in
    record {
      block = within_block b h.1.0;
      low = within_low 1 objects p h.1.1.0;
      high = within_high 1 objects p h.1.1.0;
      free = omega (arith, i.mail.deep (p - 1));
    }

-- which is a ring of the kernel's
pub has_place : (k : Kernel) (b p : ℕ) → Postable (state_of k) b p → length (entries (get_or k.mail (p - 1) no_ring)) < room
unfolding state_of
has_place k b p h = rw (← boxes_at k.mail (p - 1)) h.free

-- The tests of POSTFRONT are those of POST with margin 0.
pub front_tests : (spoilt : Bool) (b gen p : ℕ) (s : State) → lowest (post_tests spoilt b gen p 0 s) ≡ lowest (post_front_tests spoilt b gen p s)
unfolding lowest outside post_tests post_front_tests
front_tests spoilt b gen p s = refl
