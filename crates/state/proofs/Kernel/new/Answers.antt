use mathlib.Core.Path.{◌≡◌, refl}
use lib.ListN.{replicate}
use Rattle.chart.proofs.Theorems.{words_down}
use Rattle.chart.specs.Flags.{all_down, in_words}
use Rattle.chart.specs.Numbers.{most_flag}
use Rattle.chart.specs.declared.read.Edition.TheVariants.{Guarded}
use Rattle.machine.proofs.Fresh.{fresh_inv}
use Rattle.machine.specs.Numbers.{objects, side_queues, timers}
use Rattle.mail.specs.Entry.{hand_of}
use Rattle.mail.specs.View.{boxes-fresh}
use Rattle.tick.specs.Timers.{timers-fresh}
use Rattle.state.specs.View.{state_of}
use Rattle.state.proofs.Kernel.new.Goals as goal

-- no flag is up
down : in_words (replicate (most_flag Guarded) 0) ≡ (λ p. all_down)
down = λ i p. words_down p i

pub returns-clause-state : goal.returns-clause-state
unfolding state_of hand_of
returns-clause-state c = rw (c.new-3.ensures.cells, c.new-3.ensures.marks, boxes-fresh objects _ c.before.before.new.ensures, boxes-fresh side_queues _ c.before.new-2.ensures, timers-fresh timers, down) refl

pub returns-clause-good : goal.returns-clause-good
returns-clause-good c = rw (returns-clause-state c) fresh_inv
