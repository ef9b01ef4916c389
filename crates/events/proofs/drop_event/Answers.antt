use borrow.Author.Rules.{rules}
use borrow.Author.Tests.{not-true, not-false}
use mathlib.Core.Bool.{true, false}
use mathlib.Core.Path.{◌≡◌, refl, sym, ap, ◌∙◌}
use Rattle.std.proofs.Common.{Err}
use Rattle.machine.proofs.Last.{refused_sooner, refused-last}
use Rattle.machine.specs.Events.{drop_event, drop_tests}
use Rattle.numbers.specs.Codes.{code_of}
use Rattle.pool.specs.Cell.{is_new}
use Rattle.pool.specs.Row.{at}
use Rattle.pool.specs.View.{cells}
use Rattle.state.specs.View.{state_of, told}
use Rattle.state.proofs.Glue.{refusal, refused, refusal-numbered, doing}
use Rattle.events.proofs.Handles.{others, dropped-same}
use Rattle.events.proofs.drop_event.Goals as goal

pub returns-in_err-handle_refusal : goal.returns-in_err-handle_refusal
unfolding drop_event drop_tests state_of
returns-in_err-handle_refusal c = λ z.
    refused _ z _ _ _ _ c.from_residual.ensures.1 (refused_sooner _ _ (others _ _ _) _ (refusal-numbered _) (rw (c.is_stale.ensures) at c.in_err-handle_refusal.ensures))

pub returns-in_err-refuse_if : goal.returns-in_err-refuse_if
unfolding drop_event drop_tests state_of told
returns-in_err-refuse_if c = λ z.
    let e : c.from_residual-in_err-refuse_if.result ≡ Err c.in_err-refuse_if.field-0.0 = search rules in
    let old : is_new (at (cells c.args.k.now.pool) c.args.handle.block) ≡ false = sym c.drop_new.ensures.frees.answer ∙ not-true _ c.in_err-refuse_if.ensures.0 in
    rw (e, c.drop_new.ensures.frees.row, c.drop_new.ensures.marks, dropped-same _ _ old)
    (refusal _ z _ _ _ (ap code_of c.in_err-refuse_if.ensures.1 ∙ refused-last _ (others _ _ _) refl c.in_ok-handle_refusal.ensures ∙ rw (c.is_stale.ensures, old) refl))

pub returns : goal.returns
unfolding drop_event drop_tests state_of told
returns c = λ z.
    let new : is_new (at (cells c.args.k.now.pool) c.args.handle.block) ≡ true = sym c.drop_new.ensures.frees.answer ∙ not-false _ c.in_ok-refuse_if.ensures in
    doing _ z _ _ _ _ (c.in_ok-handle_refusal.ensures ∙ rw (c.is_stale.ensures, new) refl)
    (rw (c.drop_new.ensures.frees.row, c.drop_new.ensures.marks, c.done.ensures) refl)
