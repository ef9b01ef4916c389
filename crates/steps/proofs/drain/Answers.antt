use mathlib.Core.Path.{◌≡◌, refl, sym, ◌∙◌}
use native.Mathlib.Omega.{arith}
use Rattle.ground.specs.Padding.{zeros-at}
use Rattle.machine.specs.Reply.{both, lowest}
use Rattle.machine.specs.Steps.{drain, drain_done, drain_end, drain_tests}
use Rattle.pool.specs.Row.{first_bytes}
use Rattle.state.specs.View.{state_of, told}
use Rattle.state.proofs.Glue.{refused, writing}
use Rattle.steps.proofs.Runs.{drain_allowed, drain_fit, drained_is, steps_most}
use Rattle.steps.proofs.drain.Goals as goal
use Rattle.steps.proofs.drain.Goals.{In_ok-drain_refusal, After-run-n}

passed : (c : In_ok-drain_refusal) → 0 ≡ lowest (drain_tests c.args.spoilt (state_of c.args.k.now) (both c.args.tables.now c.args.guarded.now) c.args.log.now)
unfolding drain_tests state_of
passed c = c.in_ok-drain_refusal.ensures ∙ rw c.is_open.ensures refl

pub returns-in_err-drain_refusal : goal.returns-in_err-drain_refusal
unfolding drain drain_tests state_of
returns-in_err-drain_refusal c = λ p.
    refused _ _ _ _ _ _ c.from_residual.ensures.1 (c.in_err-drain_refusal.ensures ∙ rw c.is_open.ensures refl)

pub run-n-requires : goal.run-n-requires
unfolding state_of
run-n-requires c =
    let i = c.requires.0 in
    let h = drain_allowed c.args.spoilt (state_of c.args.k.now) (both c.args.tables.now c.args.guarded.now) c.args.log.now (sym (passed (goal.at.run-n-requires c).In_ok-drain_refusal)) in
    record {
      sized = (
        record { mail = i.mail.boxes-length; rests = i.seats.rests_length; times = refl; few = λ b. omega (arith, zeros-at first_bytes b); log = h.3 },
        h.1,
        h.2,
        omega (arith, c.requires.1),
      );
      fit_run = drain_fit c.args.k.now _ (both c.args.tables.now c.args.guarded.now) c.args.log.now c.generations.ensures h.0 i;
    }

pub overflow_cast-n : goal.overflow_cast-n
unfolding state_of
overflow_cast-n c =
    let k = c.args.k.now in
    let tables = both c.args.tables.now c.args.guarded.now in
    let h = drain_allowed c.args.spoilt (state_of k) tables c.args.log.now (sym (passed (goal.at.overflow_cast-n c).In_ok-drain_refusal)) in
    omega (arith, c.requires.1, steps_most k _ tables c.args.log.now c.generations.ensures h.0 c.requires.0 c.args.budget _ c.run-n.ensures.1)

pub returns : goal.returns
unfolding drain drain_done drain_end told state_of
returns c = λ p.
    let k = c.args.k.now in
    let tables = both c.args.tables.now c.args.guarded.now in
    let allowed = (goal.at.returns c).In_ok-drain_refusal in
    let h = drain_allowed c.args.spoilt (state_of k) tables c.args.log.now (sym (passed allowed)) in
    writing _ _ _ _ _ _ _ (passed allowed)
    (rw (
      drained_is k _ tables c.args.log.now c.generations.ensures h.0 c.requires.0 c.args.budget _ c.run-n.ensures.1,
      c.let_go_each.ensures.cells,
      c.let_go_each.ensures.marks,
      c.done.ensures,
      c.last_value.ensures,
    ) refl)
