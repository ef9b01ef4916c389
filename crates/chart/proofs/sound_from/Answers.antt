use mathlib.Core.Path.{◌∙◌}
use Rattle.chart.proofs.OneRow.{plain_from}
use Rattle.chart.proofs.sound_from.Goals as goal

pub returns-in-Plain : goal.returns-in-Plain
returns-in-Plain c =
    rw c.in-Plain.is (c.blank_from.ensures ∙ plain_from c.args.row.now c.args.k c.requires.1)
