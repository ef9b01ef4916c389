use mathlib.Core.Path.{◌∙◌, sym}
use native.Mathlib.Omega.{arith}
use Rattle.chart.proofs.OneRow.{sound-is}
use Rattle.chart.proofs.start_sound.Goals as goal

-- a sound row has all its bytes
pub bounds-row-21 : goal.bounds-row-21
bounds-row-21 c = let w = sound-is _ _ (sym c.sound.ensures ∙ c.if-sound.true) in omega (arith, w.whole)
