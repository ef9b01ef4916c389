use Rattle.std.proofs.Common.{◌≡◌}
use Rattle.machine.specs.Machine.{answer_to}
use Rattle.state.specs.View.{areas, state_of, told}
use Rattle.kernel.proofs.Dispatch.{no_record, ran, still_good, unknown}
use Rattle.kernel.proofs.command.Goals as goal
use Rattle.kernel.proofs.command.Goals.{After-run}

pub returns-then-record-ne-RECORD_BYTES-clause-answers : goal.returns-then-record-ne-RECORD_BYTES-clause-answers
returns-then-record-ne-RECORD_BYTES-clause-answers c = no_record _ _ _ _ _ c.if-record-ne-RECORD_BYTES.true c.refused.ensures

answers : (c : After-run) → let a = c.args in let n = c.run.new in
    told n.k c.run.result (areas n.payloads n.tables n.guarded n.log)
    ≡ answer_to (state_of a.k.now) a.«record».now a.chart.now (areas a.payloads.now a.tables.now a.guarded.now a.log.now)
answers c = ran _ _ _ _ _ _ _ _ c.if-record-ne-RECORD_BYTES.false c.in-Ok.ensures c.run.ensures

pub returns-in-Ok-clause-good : goal.returns-in-Ok-clause-good
returns-in-Ok-clause-good c = still_good _ _ _ _ _ _ _ c.requires (answers (goal.at.returns-in-Ok-clause-good c).After-run)

pub returns-in-Ok-clause-answers : goal.returns-in-Ok-clause-answers
returns-in-Ok-clause-answers c = answers (goal.at.returns-in-Ok-clause-answers c).After-run

pub returns-in-Err-clause-answers : goal.returns-in-Err-clause-answers
returns-in-Err-clause-answers c = unknown _ _ _ _ _ c.if-record-ne-RECORD_BYTES.false c.in-Err.ensures c.refused-in-Err.ensures
