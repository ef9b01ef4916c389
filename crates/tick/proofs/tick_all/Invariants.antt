use mathlib.Core.Path.{◌≡◌}
use Prim.Native.Nat.{◌-◌, ◌≤◌}
use Rattle.machine.specs.Clocks.{ticked, tick_all, tick_from}
use Rattle.machine.specs.Numbers.{timers}
use Rattle.machine.specs.State.{State}
use Rattle.tick.specs.Timing.{Ready, timing}
use Rattle.tick.proofs.tick_all.Given as goal

-- The timers from t on come to what all come to.
abbrev pub invariant-loop-t : goal.invariant-loop-t
invariant-loop-t l = record {
  ready : Ready l.timers l.depths;
  few : (l.ticks.fired ≤ l.t) × (l.ticks.late ≤ l.t);
  rest : (s : State) →
      tick_from (timers - l.t) l.t (ticked (timing l.timers l.mail l.depths s) l.ticks.fired l.ticks.late)
      ≡ tick_all (timing l.initial.timers l.initial.mail l.depths s);
}
