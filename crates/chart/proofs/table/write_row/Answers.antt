use Rattle.chart.proofs.table.write_row.Goals as goal

pub returns : goal.returns
returns c = rw (c.copy_from_slice.ensures.after, c.bytes.ensures)
