use borrow.Author.Tests.{eq-eqb, ne_eqb}
use mathlib.Core.Path.{refl, sym, ◌∙◌}
use native.Mathlib.Omega.{arith}
use Rattle.machine.specs.Events.{read_at}
use Rattle.state.specs.View.{state_of}
use Rattle.state.proofs.Glue.{refusal-numbered}
use Rattle.payloads.proofs.Blocks.{readable}
use Rattle.payloads.proofs.read_at.Goals as goal

pub part_of-requires : goal.part_of-requires
part_of-requires c = (readable _ _ _ _ _ c.requires c.in-Ok.ensures).block

pub returns-in-Ok : goal.returns-in-Ok
unfolding read_at state_of
returns-in-Ok c =
    let h = readable _ _ _ _ _ c.requires c.in-Ok.ensures in
    let p = c.part_of.ensures in
    record { part = rw (eq-eqb _ _ (sym c.in-Ok.ensures), p.0, p.1) refl; within = omega (arith, p.0, p.1, h.within) }

pub returns-in-Err-clause-part : goal.returns-in-Err-clause-part
unfolding read_at
returns-in-Err-clause-part c =
    let p = c.no_part.ensures in
    simp (ne_eqb _ _ (λ e. refusal-numbered _ (c.in-Err.ensures ∙ e)), p.0, p.1)
