-- The timers as the machine has them, and what holds of all such.
use Rattle.std.specs.Prelude.{◌≡◌, refl, List, ℕ, zero, suc, get_or, length, map, replicate, set}
use Rattle.std.proofs.Math.ListN.{get_or-map}
use Rattle.std.proofs.Math.Seq.{map-set_same}
use Rattle.std.proofs.lemmas.List.{length-map, map-set}
use Rattle.machine.specs.State.{Timers}
use Rattle.tick.specs.declared.Timer.{Timer}

unfoldable pub timers_of : List Timer → Timers
timers_of ts = record {
  owners = map (λ t. t.owner) ts;
  alarms = map (λ t. t.alarm) ts;
  counters = map (λ t. t.counter) ts;
  intervals = map (λ t. t.interval) ts;
}

-- A timer of zeros: what a place past the end of a list of timers reads as.
abbrev pub no_timer : Timer
no_timer = record { owner = 0; alarm = 0; counter = 0; interval = 0 }

module _ (ts : List Timer) where
  pub counters-length : length (timers_of ts).counters ≡ length ts
  unfolding timers_of
  counters-length = length-map ts (λ t. t.counter)

  module _ (t : ℕ) where
    pub owner_at : get_or (timers_of ts).owners t 0 ≡ (get_or ts t no_timer).owner
    unfolding timers_of
    owner_at = get_or-map (λ t. t.owner) ts t no_timer

    pub alarm_at : get_or (timers_of ts).alarms t 0 ≡ (get_or ts t no_timer).alarm
    unfolding timers_of
    alarm_at = get_or-map (λ t. t.alarm) ts t no_timer

    pub counter_at : get_or (timers_of ts).counters t 0 ≡ (get_or ts t no_timer).counter
    unfolding timers_of
    counter_at = get_or-map (λ t. t.counter) ts t no_timer

    pub interval_at : get_or (timers_of ts).intervals t 0 ≡ (get_or ts t no_timer).interval
    unfolding timers_of
    interval_at = get_or-map (λ t. t.interval) ts t no_timer

    -- another timer takes the place of timer t
    pub timers_set : (x : Timer) → timers_of (set ts t x) ≡ record {
      owners = set (timers_of ts).owners t x.owner;
      alarms = set (timers_of ts).alarms t x.alarm;
      counters = set (timers_of ts).counters t x.counter;
      intervals = set (timers_of ts).intervals t x.interval;
    }
    unfolding timers_of
    timers_set x = rw (map-set (λ t. t.owner) ts t x, map-set (λ t. t.alarm) ts t x, map-set (λ t. t.counter) ts t x, map-set (λ t. t.interval) ts t x) refl

    -- the counter of timer t alone changes
    pub timers_counted : (c : ℕ) → let x = get_or ts t no_timer in
        timers_of (set ts t (record { owner = x.owner; alarm = x.alarm; counter = c; interval = x.interval })) ≡ record {
          owners = (timers_of ts).owners;
          alarms = (timers_of ts).alarms;
          counters = set (timers_of ts).counters t c;
          intervals = (timers_of ts).intervals;
        }
    unfolding timers_of
    timers_counted c =
        let x = get_or ts t no_timer in
        let y : Timer = record { owner = x.owner; alarm = x.alarm; counter = c; interval = x.interval } in
        rw (
          map-set_same (λ t. t.owner) ts t y no_timer refl,
          map-set_same (λ t. t.alarm) ts t y no_timer refl,
          map-set (λ t. t.counter) ts t y,
          map-set_same (λ t. t.interval) ts t y no_timer refl,
        ) refl

repeated : (f : Timer → ℕ) (x : Timer) (n : ℕ) → map f (replicate n x) ≡ replicate n (f x)
repeated f x zero = refl
repeated f x (suc n) = rw (repeated f x n) refl

pub timers-fresh : (n : ℕ) → timers_of (replicate n no_timer) ≡ record { owners = replicate n 0; alarms = replicate n 0; counters = replicate n 0; intervals = replicate n 0 }
unfolding timers_of
timers-fresh n =
    rw (
      repeated (λ t. t.owner) no_timer n,
      repeated (λ t. t.alarm) no_timer n,
      repeated (λ t. t.counter) no_timer n,
      repeated (λ t. t.interval) no_timer n,
    ) refl
