-- The commands on timers keep the invariant.
use mathlib.Core.Bool.{Bool, false}
use mathlib.Core.List.{[], ◌∷◌}
use mathlib.Core.Path.{◌≡◌, refl}
use Prim.Native.Nat.{ℕ, zero, suc, ◌+◌, ◌-◌, ◌<◌}
use native.Mathlib.Omega.{arith}
use borrow.Author.Tests.{eqb-false, ltb-true, not-false}
use lib.Dec.{eqb, ltb}
use lib.ListN.{get_or}
use Rattle.ground.specs.Bools.{cond_pick}
use Rattle.mail.specs.Entry.{entry_of, hand_of}
use Rattle.mail.specs.Laws.{occurrences-back, timer_back}
use Rattle.mail.specs.declared.Hand.TheVariants.{Block, Timer}
use Rattle.machine.proofs.Counts.{other_entry}
use Rattle.machine.proofs.Parts.{has-place, started_deep, mail_back, timers-count, timers-arm}
use Rattle.machine.proofs.Tests.{within_low, within_high, within-signal, unless-state}
use Rattle.machine.specs.Clocks.{arm_tests, armed_with, arm, with_counter, disarm_tests, disarm, Ticked, ticked, fire, tick_timer, tick_from, tick_done, tick}
use Rattle.machine.specs.Inv.{Inv, references, IsEvent, ArmedOk}
use Rattle.machine.specs.Numbers.{objects, timers}
use Rattle.machine.specs.Reply.{FORM, Areas}
use Rattle.machine.specs.State.{State, counter_of, room}

module _ (s : State) (i : Inv s) (t : ℕ) where
  pub armed_with_keeps : (p g ticks interval : ℕ) → t < timers → ArmedOk s.objects.depths p g → Inv (armed_with s t p g ticks interval)
  unfolding armed_with references
  armed_with_keeps p g ticks interval l h = record {
    store = i.store;
    mail = i.mail;
    aside = i.aside;
    seats = i.seats;
    wants = i.wants;
    timers = timers-arm s.timers s.objects.depths i.timers t l p g ticks interval h;
    in_hand = i.in_hand;
    counted = i.counted;
  }

  pub with_counter_keeps : (c : ℕ) → t < timers → (0 < c → ArmedOk s.objects.depths (get_or s.timers.owners t 0) (get_or s.timers.alarms t 0)) →
      Inv (with_counter t c s)
  unfolding with_counter references
  with_counter_keeps c l h = record {
    store = i.store;
    mail = i.mail;
    aside = i.aside;
    seats = i.seats;
    wants = i.wants;
    timers = timers-count s.timers s.objects.depths i.timers t l c h;
    in_hand = i.in_hand;
    counted = i.counted;
  }

  module _ (on : 0 < counter_of s t) where
    is_timer_lem : t < timers
    is_timer_lem = omega (arith, has-place s.timers.counters t on, i.timers.counters_length)

    -- an entry of a timer refers to no block
    pub fire_keeps : 0 < room s (get_or s.timers.owners t 0) → Inv (fire t s)
    unfolding fire with_counter references IsEvent
    fire_keeps free =
        let a = i.timers.armed t on in
        let p = get_or s.timers.owners t 0 in
        let g = get_or s.timers.alarms t 0 in
        let l : p - 1 < objects = omega (arith, a.low, a.high) in
        let e : IsEvent (hand_of (entry_of (Timer t g))) = rw (timer_back t g (omega (arith, is_timer_lem)) (omega (arith, a.signal.high))) (is_timer_lem, a.signal) in
        record {
          store = i.store;
          mail = mail_back s.boxes s.objects.depths (p - 1) i.mail l (entry_of (Timer t g)) (omega arith) e;
          aside = i.aside;
          seats = i.seats;
          wants = i.wants;
          timers = timers-count s.timers s.objects.depths i.timers t is_timer_lem (get_or s.timers.intervals t 0) (λ h. a);
          in_hand = i.in_hand;
          counted = λ b h.
              let more = occurrences-back s.boxes (p - 1) (omega (arith, i.mail.boxes-length)) (entry_of (Timer t g)) (entry_of (Block b)) in
              omega (arith, i.counted b h, other_entry t g b h);
        }

pub tick_timer_keeps : (t : ℕ) (x : Ticked) → Inv x.state → Inv (tick_timer t x).state
unfolding tick_timer
tick_timer_keeps t x i =
    cond_pick Kept (eqb (counter_of x.state t) 0) _ _ (λ e. i) (λ e.
    cond_pick Kept (ltb 1 (counter_of x.state t)) _ _ (λ f. with_counter_keeps x.state i t _ (is_timer_lem x.state i t (on e)) (λ h. i.timers.armed t (on e))) (λ f.
    cond_pick Kept (ltb 0 (room x.state (get_or x.state.timers.owners t 0))) _ _ (λ h. fire_keeps x.state i t (on e) (ltb-true 0 _ h)) (λ h. i)))
  where
    Kept : Ticked → Type 0
    Kept y = Inv y.state

    on : eqb (counter_of x.state t) 0 ≡ false → 0 < counter_of x.state t
    on e = let ne = eqb-false (counter_of x.state t) 0 e in omega arith

pub tick_from_keeps : (k t : ℕ) (x : Ticked) → Inv x.state → Inv (tick_from k t x).state
unfolding tick_from
tick_from_keeps zero t x i = i
tick_from_keeps (suc k) t x i = tick_from_keeps k (t + 1) (tick_timer t x) (tick_timer_keeps t x i)

-- The commands.
module _ (s : State) (z : Areas) (i : Inv s) where
  pub arm_keeps : (spoilt : Bool) (t p g ticks interval : ℕ) → Inv (arm spoilt t p g ticks interval s z).state
  unfolding arm arm_tests
  arm_keeps spoilt t p g ticks interval =
      unless-state s z _ Inv i (arm_tests spoilt t p g ticks s) refl (λ u.
      armed_with_keeps s i t p g ticks interval (omega (arith, within_high)) (record {
        low = omega (arith, within_low);
        high = omega (arith, within_high);
        present = started_deep s p (not-false _ u.1.1.1.1.1.0);
        signal = within-signal g u.1.1.1.0;
      }))

  pub disarm_keeps : (spoilt : Bool) (t : ℕ) → Inv (disarm spoilt t s z).state
  unfolding disarm disarm_tests
  disarm_keeps spoilt t =
      unless-state s z _ Inv i (disarm_tests spoilt t) refl (λ u. with_counter_keeps s i t 0 (omega (arith, within_high)) (λ h. absurd (omega arith)))

  pub tick_keeps : (spoilt : Bool) → Inv (tick spoilt s z).state
  unfolding tick tick_done
  tick_keeps spoilt = unless-state s z _ Inv i ((FORM, spoilt) ∷ []) refl (λ u. tick_from_keeps timers 0 (ticked s 0 0) i)
