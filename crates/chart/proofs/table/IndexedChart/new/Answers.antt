use Rattle.chart.proofs.Accepted.{accepted, size_of}
use Rattle.chart.proofs.table.IndexedChart.new.Goals as goal

pub index_rows-requires : goal.index_rows-requires
index_rows-requires c = size_of c.args.chart.now (accepted c.args.edition _ c.requires).fits
