use borrow.Author.Tests.{leb-false}
use mathlib.Core.Path.{refl, ◌∙◌}
use Prim.Native.Nat.{◌<◌}
use native.Mathlib.Omega.{arith}
use Rattle.machine.specs.Events.{hold, hold_tests, held}
use Rattle.machine.specs.Numbers.{blocks, most_holds}
use Rattle.state.specs.View.{state_of, told}
use Rattle.state.proofs.Glue.{refused, doing}
use Rattle.events.proofs.Handles.{handle_allowed}
use Rattle.events.proofs.hold.Goals as goal
use Rattle.events.proofs.hold.Goals.{In_ok-handle_refusal}

allowed : (c : In_ok-handle_refusal) → (c.args.handle.block < blocks) × (c.byte_at-n.result < most_holds)
allowed c = let h = handle_allowed _ _ _ _ _ refl c.in_ok-handle_refusal.ensures in (h.block, leb-false _ _ h.passed)

pub returns-in_err-handle_refusal : goal.returns-in_err-handle_refusal
unfolding hold hold_tests state_of
returns-in_err-handle_refusal c = λ z.
    refused _ z _ _ _ _ c.from_residual.ensures.1 (c.in_err-handle_refusal.ensures ∙ rw (c.is_stale.ensures, c.byte_at-n.ensures) refl)

pub overflow_add-k : goal.overflow_add-k
overflow_add-k c = let h = allowed (goal.at.overflow_add-k c).In_ok-handle_refusal in omega arith

pub bounds-k-b : goal.bounds-k-b
bounds-k-b c = let h = allowed (goal.at.bounds-k-b c).In_ok-handle_refusal in h.0

pub overflow_add-n : goal.overflow_add-n
overflow_add-n c = let h = allowed (goal.at.overflow_add-n c).In_ok-handle_refusal in omega arith

pub returns : goal.returns
unfolding hold hold_tests held state_of told
returns c = λ z.
    doing _ z _ _ _ _ (c.in_ok-handle_refusal.ensures ∙ rw (c.is_stale.ensures, c.byte_at-n.ensures) refl)
    (rw (c.add.ensures.cells, c.add.ensures.marks, c.done.ensures, c.byte_at-n.ensures) refl)
