use mathlib.Core.Path.{◌≡◌, refl, sym, ◌∙◌}
use native.Mathlib.Omega.{arith}
use lib.ListN.{get_or}
use Rattle.machine.specs.Events.{full_receiver, publish, publish_tests}
use Rattle.machine.specs.Numbers.{objects}
use Rattle.state.specs.View.{state_of}
use Rattle.state.proofs.Glue.{refused, doing}
use Rattle.events.proofs.Handles.{handle_allowed}
use Rattle.events.proofs.Receivers.{kernel_reads}
use Rattle.events.proofs.publish.Goals as goal
use Rattle.events.proofs.publish.Goals.{After-from-g, After-any_full-full}

signal_is : (c : After-from-g) → c.from-g.result ≡ get_or c.args.k.now.signals c.args.handle.block 0
signal_is c = c.from-g.ensures ∙ c.byte_at.ensures

full_is : (c : After-any_full-full) → c.any_full-full.result ≡ full_receiver (state_of c.args.k.now) c.from-g.result objects
full_is c = c.any_full-full.ensures (state_of c.args.k.now) (kernel_reads c.args.k.now)

pub returns-in_err-handle_refusal : goal.returns-in_err-handle_refusal
unfolding publish publish_tests state_of
returns-in_err-handle_refusal c = λ z.
    let x = goal.at.returns-in_err-handle_refusal c in
    refused _ z _ _ _ _ c.from_residual.ensures.1 (c.in_err-handle_refusal.ensures ∙ rw (c.is_stale.ensures, full_is x.After-any_full-full, signal_is x.After-from-g) refl)

pub publish_to_all-requires : goal.publish_to_all-requires
unfolding state_of
publish_to_all-requires c =
    let h = handle_allowed _ _ _ _ _ refl c.in_ok-handle_refusal.ensures in
    let x = goal.at.publish_to_all-requires c in
    record {
      block = (h.block, omega (arith, c.from-g.ensures, c.byte_at.type_inv), signal_is x.After-from-g);
      places = (sym (full_is x.After-any_full-full) ∙ h.passed, c.requires.mail.deep);
    }

pub returns : goal.returns
unfolding publish publish_tests state_of
returns c = λ z.
    let x = goal.at.returns c in
    doing _ z _ _ _ _ (c.in_ok-handle_refusal.ensures ∙ rw (c.is_stale.ensures, full_is x.After-any_full-full, signal_is x.After-from-g) refl)
    (rw (← signal_is x.After-from-g) (c.publish_to_all.ensures z))
