use mathlib.Core.Path.{◌≡◌, refl, sym, ◌∙◌}
use Prim.Native.Nat.{◌≤◌, ◌<◌}
use native.Mathlib.Omega.{arith}
use lib.Dec.{eqb}
use Rattle.bits.specs.Members.{width}
use Rattle.chart.specs.Numbers.{most_flag}
use Rattle.chart.specs.declared.read.Edition.TheVariants.{Guarded}
use Rattle.machine.proofs.Tests.{none_holds, within_low, within_high}
use Rattle.machine.specs.Charts.{flag, flag_changes, flag_set, flag_tests}
use Rattle.mail.specs.Box.{one}
use Rattle.machine.specs.Numbers.{objects}
use Rattle.state.specs.View.{told, state_of}
use Rattle.state.proofs.Glue.{refused, doing}
use Rattle.charts.proofs.Slots.{flag-changed}
use Rattle.charts.proofs.flag.Goals as goal
use Rattle.charts.proofs.flag.Goals.{In_ok-flag_refusal}

pub returns-in_err-flag_refusal : goal.returns-in_err-flag_refusal
unfolding flag flag_tests
returns-in_err-flag_refusal c = λ z.
    refused c.args.k.now z _ _ _ _ c.from_residual.ensures.1 (c.in_err-flag_refusal.ensures ∙ rw (c.is_open.ensures, c.is_started.ensures) refl)

bounds : (c : In_ok-flag_refusal) → (c.args.p < width) × (1 ≤ c.args.f) × (c.args.f ≤ most_flag Guarded)
bounds c =
    let n = none_holds _ refl (sym c.in_ok-flag_refusal.ensures) in
    (let h = within_high 1 objects _ n.1.0 in omega arith, within_low 1 (most_flag Guarded) _ n.1.1.0, within_high 1 (most_flag Guarded) _ n.1.1.0)

pub is_up-requires : goal.is_up-requires
is_up-requires c = bounds (goal.at.is_up-requires c).In_ok-flag_refusal

pub set-requires : goal.set-requires
set-requires c = bounds (goal.at.set-requires c).In_ok-flag_refusal

pub returns : goal.returns
unfolding flag flag_tests flag_changes flag_set told state_of
returns c = λ z.
    let s = state_of c.args.k.now in
    let changes : c.from.result ≡ one (flag_changes s c.args.p c.args.f c.args.v) = c.from.ensures ∙ rw c.is_up.ensures (flag-changed (s.flags c.args.p c.args.f) (eqb c.args.v 1)) in
    doing c.args.k.now z _ _ _ _ (c.in_ok-flag_refusal.ensures ∙ rw (c.is_open.ensures, c.is_started.ensures) refl)
    (rw (c.done.ensures, changes, c.set.ensures) refl)
