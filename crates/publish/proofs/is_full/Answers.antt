use mathlib.Core.Path.{refl}
use Rattle.mail.specs.View.{boxes_at}
use Rattle.publish.proofs.is_full.Goals as goal

pub returns-then-subscribes : goal.returns-then-subscribes
returns-then-subscribes c =
    rw (boxes_at, ← c.subscribes.ensures, c.if-subscribes.true, c.saturating_sub.ensures, c.from.ensures, c.len.ensures) refl
