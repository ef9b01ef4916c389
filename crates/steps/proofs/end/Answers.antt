use borrow.Author.Rules.{rules}
use mathlib.Core.Bool.{cond}
use mathlib.Core.Path.{◌≡◌, refl, ◌∙◌}
use Rattle.machine.specs.Steps.{end, end_tests}
use Rattle.mail.specs.Entry.{hand_of}
use Rattle.mail.specs.declared.Hand.TheVariants.{Nothing}
use Rattle.state.specs.View.{state_of, told}
use Rattle.state.proofs.Glue.{doing, refused}
use Rattle.steps.proofs.Runs.{ended_is, freed_is}
use Rattle.steps.proofs.end.Goals as goal

pub returns-in_err-end_refusal : goal.returns-in_err-end_refusal
unfolding end end_tests
returns-in_err-end_refusal c = λ z.
    refused _ z _ _ _ _ c.from_residual.ensures.1 (c.in_err-end_refusal.ensures ∙ rw c.is_open.ensures refl)

nothing : hand_of 0 ≡ Nothing
unfolding hand_of
nothing = refl

pub returns : goal.returns
unfolding end end_tests told state_of
returns c = λ z.
    let k = c.args.k.now in
    let gone = c.let_go-freed.ensures in
    let freed : c.from-2.result ≡ cond c.let_go-freed.result 1 0 = search rules in
    doing _ z _ _ _ _ (c.in_ok-end_refusal.ensures ∙ rw c.is_open.ensures refl)
    (rw (nothing, c.done.ensures, freed, gone.frees.row, gone.marks, gone.frees.answer, c.from.ensures, c.block_of-b.ensures, c.hand_of.ensures, ended_is k, freed_is k) refl)
