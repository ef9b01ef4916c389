use Rattle.chart.proofs.step.Acts.+enter.Given as goal

abbrev pub decreases-enter : goal.decreases-enter
decreases-enter l = l.k
