-- Document 01, "Commands": timers. ARM, DISARM, TICK.
use Rattle.std.specs.Prelude.{Bool, cond, not, List, [], ◌∷◌, ℕ, zero, suc, ◌+◌, ◌-◌, eqb, ltb, get_or, set}
use Rattle.mail.specs.Box.{one, push_back}
use Rattle.mail.specs.Entry.{entry_of}
use Rattle.mail.specs.declared.Hand.TheVariants.{Timer}
use Rattle.machine.specs.Numbers.{timers, no_object, no_signal, no_timer}
use Rattle.machine.specs.State.{State, started, room, counter_of, armed, with_boxes, with_timers, with_counters}
use Rattle.machine.specs.Reply.{FORM, RANGE, ABSENT, TAKEN, done, Areas, Answer, answer, lowest, unless}

-- 14 ARM timer, p, signal, ticks, interval (16 bits each).
unfoldable pub arm_tests : Bool → ℕ → ℕ → ℕ → ℕ → State → List (ℕ × Bool)
arm_tests spoilt t p g ticks s =
    (FORM, spoilt)
    ∷ (RANGE, no_timer t)
    ∷ (RANGE, no_object p)
    ∷ (RANGE, no_signal g)
    ∷ (RANGE, eqb ticks 0)
    ∷ (ABSENT, not (started s p))
    ∷ (TAKEN, armed s t)
    ∷ []

unfoldable pub armed_with : State → ℕ → ℕ → ℕ → ℕ → ℕ → State
armed_with s t p g ticks interval =
    with_timers (record {
      owners = set s.timers.owners t p;
      alarms = set s.timers.alarms t g;
      counters = set s.timers.counters t ticks;
      intervals = set s.timers.intervals t interval;
    })
    s

unfoldable pub arm : Bool → ℕ → ℕ → ℕ → ℕ → ℕ → State → Areas → Answer
arm spoilt t p g ticks interval s z =
    unless (lowest (arm_tests spoilt t p g ticks s)) s z (answer (armed_with s t p g ticks interval) (done 0 0) z)

-- 15 DISARM timer: 1 if anything changed.
unfoldable pub with_counter : ℕ → ℕ → State → State
with_counter t c s = with_counters (set s.timers.counters t c) s

unfoldable pub disarm_tests : Bool → ℕ → List (ℕ × Bool)
disarm_tests spoilt t = (FORM, spoilt) ∷ (RANGE, no_timer t) ∷ []

unfoldable pub disarm : Bool → ℕ → State → Areas → Answer
disarm spoilt t s z = unless (lowest (disarm_tests spoilt t)) s z (answer (with_counter t 0 s) (done (one (armed s t)) 0) z)

-- 16 TICK goes through armed timers by ascending number. Counter above 1: less one. At 1 with room: an entry with that timer and signal
-- goes to the back, the counter becomes the interval, or the timer is disarmed if that is 0. At 1 without room: late, and the counter stays 1.
pub record Ticked : Type 0 where
  pub state : State
  pub fired : ℕ
  pub late : ℕ

abbrev pub ticked : State → ℕ → ℕ → Ticked
ticked s f l = record { state = s; fired = f; late = l }

unfoldable pub fire : ℕ → State → State
fire t s =
    with_boxes (push_back s.boxes (get_or s.timers.owners t 0 - 1) (entry_of (Timer t (get_or s.timers.alarms t 0))))
    (with_counter t (get_or s.timers.intervals t 0) s)

unfoldable pub tick_timer : ℕ → Ticked → Ticked
tick_timer t x =
    cond (eqb (counter_of x.state t) 0) x
    (cond (ltb 1 (counter_of x.state t)) (ticked (with_counter t (counter_of x.state t - 1) x.state) x.fired x.late)
    (cond (ltb 0 (room x.state (get_or x.state.timers.owners t 0)))
    (ticked (fire t x.state) (x.fired + 1) x.late)
    (ticked x.state x.fired (x.late + 1))))

-- the k timers from t on
unfoldable pub tick_from : ℕ → ℕ → Ticked → Ticked
tick_from zero t x = x
tick_from (suc k) t x = tick_from k (t + 1) (tick_timer t x)

abbrev pub tick_all : State → Ticked
tick_all s = tick_from timers 0 (ticked s 0 0)

unfoldable pub tick_done : Ticked → Areas → Answer
tick_done x z = answer x.state (done x.fired x.late) z

unfoldable pub tick : Bool → State → Areas → Answer
tick spoilt s z = unless (lowest ((FORM, spoilt) ∷ [])) s z (tick_done (tick_all s) z)
