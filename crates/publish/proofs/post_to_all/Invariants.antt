use Rattle.mail.specs.View.{boxes}
use Rattle.publish.proofs.Turns.{Left}
use Rattle.publish.proofs.post_to_all.Given as goal

abbrev pub invariant-loop-p : goal.invariant-loop-p
invariant-loop-p l = Left l.wants (boxes l.initial.mail) l.b l.g (boxes l.mail) l.n l.p
