use mathlib.Core.Path.{refl}
use Prim.Native.Nat.{◌≤◌}
use native.Mathlib.Omega.{arith}
use lib.ListN.{length, get_or-eq_default}
use Rattle.state.specs.View.{state_of}
use Rattle.tick.specs.Timers.{timers_of, counters-length, counter_at, no_timer}
use Rattle.clocks.proofs.is_armed.Goals as goal

pub returns-in-Some : goal.returns-in-Some
unfolding state_of
returns-in-Some c = rw (counter_at, ← c.in-Some.ensures.lookup.4 (omega arith) no_timer) refl

pub returns-in-None : goal.returns-in-None
unfolding state_of
returns-in-None c =
    let ts = c.args.k.now.timers in
    let past : length (timers_of ts).counters ≤ c.args.t = omega (arith, counters-length ts, c.in-None.ensures.lookup.3) in
    rw (get_or-eq_default (timers_of ts).counters 0 past) refl
