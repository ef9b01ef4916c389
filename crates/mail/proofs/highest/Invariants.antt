use mathlib.Core.Path.{◌≡◌}
use Rattle.mail.specs.Box.{highest, highest_of}
use Rattle.mail.specs.View.{boxes}
use Rattle.mail.proofs.highest.Given as goal

-- The highest of the first p objects is the highest of all.
abbrev pub invariant-loop-p : goal.invariant-loop-p
invariant-loop-p l = highest_of (boxes l.rings) l.p ≡ highest (boxes l.rings)
