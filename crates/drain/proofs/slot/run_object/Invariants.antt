use Rattle.mail.specs.View.{boxes}
use Rattle.drain.specs.Lent.{run_at}
use Rattle.drain.proofs.Loop.{Amid}
use Rattle.drain.proofs.slot.run_object.Given as goal

abbrev pub invariant-loop-n : goal.invariant-loop-n
invariant-loop-n g l =
    Amid l.fixed (boxes l.mail) l.rests l.times l.log l.p l.budget l.from l.end l.rest l.n
    (run_at (boxes l.initial.mail) l.initial.rests l.initial.times l.initial.log l.from)
