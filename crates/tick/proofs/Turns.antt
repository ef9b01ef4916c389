-- The turn of one timer by what the code reads, and the turns of all.
use mathlib.Core.List.{List}
use mathlib.Core.Path.{◌≡◌, refl}
use Prim.Native.Nat.{ℕ, suc, ◌+◌, ◌-◌, ◌<◌, ◌≤◌}
use native.Mathlib.Omega.{arith}
use borrow.Author.Tests.{eq-eqb, ne_eqb, lt-ltb, le-ltb}
use lib.ListN.{get_or, length, set}
use Rattle.machine.proofs.Parts.{timers-count}
use Rattle.machine.specs.Clocks.{Ticked, ticked, tick_from, tick_timer, fire, with_counter}
use Rattle.machine.specs.Inv.{ArmedOk}
use Rattle.machine.specs.Numbers.{timers}
use Rattle.machine.specs.State.{State}
use Rattle.mail.specs.Box.{behind}
use Rattle.mail.specs.Entry.{entry_of}
use Rattle.mail.specs.View.{entries, boxes_at, no_ring, pushed_back}
use Rattle.mail.specs.declared.Hand.TheVariants
use Rattle.mail.specs.declared.Ring.{Ring}
use Rattle.tick.specs.Timers.{no_timer, alarm_at, counter_at, interval_at, owner_at, timers_counted}
use Rattle.tick.specs.Timing.{Ready, timing}
use Rattle.tick.specs.declared.Timer.{Timer}

module _ (ts : List Timer) (depths : List ℕ) (t : ℕ) where
  abbrev timer : Timer
  timer = get_or ts t no_timer

  -- the timers with another counter for this one
  abbrev with : ℕ → List Timer
  with c = set ts t (record { owner = timer.owner; alarm = timer.alarm; counter = c; interval = timer.interval })

  module _ (ready : Ready ts depths) (on : timer.counter ≡ 0 → ⊥) where
    pub armed_ok : ArmedOk depths timer.owner timer.alarm
    armed_ok = rw (owner_at ts t, alarm_at ts t) at (ready.timers.armed t (rw (counter_at ts t) (omega arith)))

    pub still_ready : t < timers → (c : ℕ) → Ready (with c) depths
    still_ready l c = record {
      deep = ready.deep;
      timers = rw (timers_counted ts t c) (timers-count _ depths ready.timers t l c (λ h. ready.timers.armed t (rw (counter_at ts t) (omega arith))));
    }

  module _ (rings : List Ring) (s : State) (fired late : ℕ) where
    abbrev before : Ticked
    before = ticked (timing ts rings depths s) fired late

    pub turn_off : timer.counter ≡ 0 → before ≡ tick_timer t before
    unfolding timing tick_timer
    turn_off e = rw (counter_at ts t, eq-eqb timer.counter 0 e) refl

    module _ (on : timer.counter ≡ 0 → ⊥) where
      pub turn_less : 1 < timer.counter → ticked (timing (with (timer.counter - 1)) rings depths s) fired late ≡ tick_timer t before
      unfolding timing tick_timer with_counter
      turn_less h = rw (timers_counted ts t (timer.counter - 1), counter_at ts t, ne_eqb timer.counter 0 on, lt-ltb 1 timer.counter h) refl

      module _ (due : timer.counter ≤ 1) where
        abbrev queued : ℕ
        queued = length (entries (get_or rings (timer.owner - 1) no_ring))

        abbrev depth : ℕ
        depth = get_or depths (timer.owner - 1) 0

        pub turn_late : depth ≤ queued → ticked (timing ts rings depths s) fired (late + 1) ≡ tick_timer t before
        unfolding timing tick_timer
        turn_late h =
            rw (
              counter_at ts t,
              owner_at ts t,
              ne_eqb timer.counter 0 on,
              le-ltb 1 timer.counter due,
              boxes_at rings (timer.owner - 1),
              le-ltb 0 (depth - queued) (omega arith),
            ) refl

        pub turn-fire : queued < depth → (r : Ring) → entries r ≡ behind (entry_of (TheVariants.Timer t timer.alarm)) (entries (get_or rings (timer.owner - 1) no_ring)) →
            ticked (timing (with timer.interval) (set rings (timer.owner - 1) r) depths s) (fired + 1) late ≡ tick_timer t before
        unfolding timing tick_timer fire with_counter
        turn-fire h r e =
            rw (
              timers_counted ts t timer.interval,
              pushed_back rings (timer.owner - 1) r _ e,
              counter_at ts t,
              owner_at ts t,
              alarm_at ts t,
              interval_at ts t,
              ne_eqb timer.counter 0 on,
              le-ltb 1 timer.counter due,
              boxes_at rings (timer.owner - 1),
              lt-ltb 0 (depth - queued) (omega arith),
            ) refl

-- the timers from t on
pub ticks_step : (t : ℕ) (x : Ticked) → t < timers → tick_from (timers - t) t x ≡ tick_from (timers - (t + 1)) (t + 1) (tick_timer t x)
unfolding tick_from
ticks_step t x h = let z : timers - t ≡ suc (timers - (t + 1)) = omega arith in rw z refl

pub ticks_end : (t : ℕ) (x : Ticked) → timers ≤ t → tick_from (timers - t) t x ≡ x
unfolding tick_from
ticks_end t x h = let z : timers - t ≡ 0 = omega arith in rw z refl
