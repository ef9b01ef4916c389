use mathlib.Core.Path.{◌≡◌}
use lib.ListN.{drop}
use Rattle.machine.specs.Run.{blocks_in}
use Rattle.mail.specs.View.{entries}
use Rattle.pool.specs.Row.{gone_all}
use Rattle.pool.specs.View.{cells, marks}
use Rattle.aside.proofs.let_go_each.Given as goal

-- The blocks from entry i on are left to be let go.
abbrev pub invariant-loop-i : goal.invariant-loop-i
invariant-loop-i l = record {
  cells : gone_all (cells l.pool) (drop l.i (blocks_in (entries l.side))) ≡ gone_all (cells l.initial.pool) (blocks_in (entries l.side));
  marks : marks l.pool ≡ marks l.initial.pool;
}
