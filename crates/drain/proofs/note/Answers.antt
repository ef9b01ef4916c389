use borrow.Author.Rules.{rules}
use native.Mathlib.Omega.{arith}
use Rattle.pool.specs.Laws.{once_more-set}
use Rattle.drain.proofs.Laws.{log_line_lem}
use Rattle.drain.proofs.note.Goals as goal

pub returns : goal.returns
returns c = (
  log_line_lem _ _ _ c.requires.0 c.requires.2 (search rules) _ c.copy_from_slice.ensures.after,
  rw c.from.ensures (once_more-set _ _ c.requires.1 (omega (arith, c.ranges.first))),
)
