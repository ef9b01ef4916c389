use borrow.Author.Rules.{rules}
use borrow.Author.Tests.{eqb-false}
use mathlib.Core.Path.{◌≡◌, refl, ◌∙◌}
use Prim.Native.Nat.{◌<◌}
use native.Mathlib.Omega.{arith}
use Rattle.machine.specs.Events.{release, release_tests, released}
use Rattle.machine.specs.Numbers.{blocks}
use Rattle.mail.specs.Box.{one}
use Rattle.state.specs.View.{state_of, told}
use Rattle.state.proofs.Glue.{refused, doing}
use Rattle.events.proofs.Handles.{handle_allowed}
use Rattle.events.proofs.release.Goals as goal
use Rattle.events.proofs.release.Goals.{In_ok-handle_refusal}

allowed : (c : In_ok-handle_refusal) → (c.args.handle.block < blocks) × (c.byte_at-n.result ≡ 0 → ⊥)
allowed c = let h = handle_allowed _ _ _ _ _ refl c.in_ok-handle_refusal.ensures in (h.block, eqb-false _ _ h.passed)

pub returns-in_err-handle_refusal : goal.returns-in_err-handle_refusal
unfolding release release_tests state_of
returns-in_err-handle_refusal c = λ z.
    refused _ z _ _ _ _ c.from_residual.ensures.1 (c.in_err-handle_refusal.ensures ∙ rw (c.is_stale.ensures, c.byte_at-n.ensures) refl)

pub overflow_sub-k : goal.overflow_sub-k
overflow_sub-k c = let h = allowed (goal.at.overflow_sub-k c).In_ok-handle_refusal in omega arith

pub bounds-k-b : goal.bounds-k-b
bounds-k-b c = let h = allowed (goal.at.bounds-k-b c).In_ok-handle_refusal in h.0

pub overflow_sub-n : goal.overflow_sub-n
overflow_sub-n c = let h = allowed (goal.at.overflow_sub-n c).In_ok-handle_refusal in omega arith

pub returns : goal.returns
unfolding release release_tests released state_of told
returns c =
    let gone = c.let_go-freed.ensures in
    let freed : c.from.result ≡ one c.let_go-freed.result = search rules in λ z.
    doing _ z _ _ _ _ (c.in_ok-handle_refusal.ensures ∙ rw (c.is_stale.ensures, c.byte_at-n.ensures) refl)
    (rw (gone.frees.row, gone.marks, c.done.ensures, freed, gone.frees.answer, c.byte_at-n.ensures) refl)
