use mathlib.Core.Path.{sym, ◌∙◌}
use Rattle.tick.proofs.Turns.{ticks_step, ticks_end}
use Rattle.tick.proofs.tick_all.Goals as goal

pub loop-t-preserved : goal.loop-t-preserved
loop-t-preserved c =
    let e = c.tick_timer.ensures in
    record {
      ready = e.still_ready;
      few = e.still_few;
      rest = λ s. rw (e.turned s) (sym (ticks_step c.loop-t.t _ c.loop-t-test.true) ∙ c.loop-t.invariant.rest s);
    }

pub returns : goal.returns
returns c = λ s. sym (ticks_end c.loop-t.t _ c.loop-t-test.false) ∙ c.loop-t.invariant.rest s
