use mathlib.Core.Path.{refl}
use Rattle.machine.specs.Events.{read}
use Rattle.state.specs.View.{areas, state_of, told}
use Rattle.payloads.proofs.Blocks.{Readable, readable}
use Rattle.state.proofs.Glue.{refused, doing}
use Rattle.payloads.proofs.read.Goals as goal
use Rattle.payloads.proofs.read.Goals.{In_ok-may_read}

may : (c : In_ok-may_read) → let a = c.args in Readable (state_of a.k.now) a.handle.block a.payloads.now
may c = readable _ _ _ _ _ c.requires c.in_ok-may_read.ensures

pub returns-in_err-may_read : goal.returns-in_err-may_read
unfolding read
returns-in_err-may_read c = λ t u l. refused _ (areas _ t u l) _ _ _ _ c.from_residual.ensures.1 c.in_err-may_read.ensures

pub payload_in-requires : goal.payload_in-requires
unfolding state_of
payload_in-requires c = let h = may (goal.at.payload_in-requires c).In_ok-may_read in (h.block, h.within)

pub shown-requires : goal.shown-requires
shown-requires c = rw c.payload_in.ensures (may (goal.at.shown-requires c).In_ok-may_read).short

pub returns : goal.returns
unfolding read told
returns c = λ t u l.
    doing _ (areas _ t u l) _ _ _ _ c.in_ok-may_read.ensures (rw (c.shown.ensures, c.payload_in.ensures) refl)
