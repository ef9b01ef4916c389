use native.Mathlib.Omega.{arith}
use Rattle.chart.proofs.Found.{row_cut}
use Rattle.drain.proofs.answer.Goals as goal

pub overflow_add-at : goal.overflow_add-at
overflow_add-at c = omega (arith, (c.requires.1 _ c.in-Taken.is).within)

pub slice_bounds-ran-end : goal.slice_bounds-ran-end
slice_bounds-ran-end c = omega (arith, (c.requires.1 _ c.in-Taken.is).within)

pub ran-requires-clause-row_value : goal.ran-requires-clause-row_value
ran-requires-clause-row_value c = rw (row_cut c.args.table.now c.in-Taken.at) (c.requires.1 _ c.in-Taken.is).whole
