use mathlib.Core.Path.{◌≡◌}
use lib.ListN.{drop}
use Rattle.pool.specs.Inside.{cells, marks}
use Rattle.pool.specs.Row.{gone_all}
use Rattle.pool.proofs.Pool.let_go_all.Given as goal

-- The rest of the list, from the row as it is, makes what the whole list makes of the row at the start.
abbrev pub invariant-loop-b : goal.invariant-loop-b
invariant-loop-b l =
    (gone_all (cells l.self) (drop l.b-index l.list) ≡ gone_all (cells l.initial.self) l.list) × (marks l.self ≡ marks l.initial.self)
