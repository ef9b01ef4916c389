use mathlib.Core.Path.{◌≡◌}
use lib.ListN.{take}
use Rattle.pool.specs.Inside.{cells, marks}
use Rattle.pool.specs.Row.{gone_times}
use Rattle.pool.proofs.Pool.let_go_each.Given as goal

-- The blocks below b are let go as often as the list says.
abbrev pub invariant-loop-b : goal.invariant-loop-b
invariant-loop-b l = (cells l.self ≡ gone_times (cells l.initial.self) (take l.b l.times)) × (marks l.self ≡ marks l.initial.self)
