-- LOAD, START and FLAG keep the invariant.
use mathlib.Core.Bool.{Bool}
use mathlib.Core.List.{List}
use mathlib.Core.Path.{◌≡◌, refl}
use Prim.Native.Nat.{ℕ, ◌-◌, ◌≤◌, ◌<◌}
use native.Mathlib.Omega.{arith}
use borrow.Author.Tests.{eqb-true, not-false}
use lib.ListN.{get_or, set}
use Rattle.ground.specs.Bools.{and_left}
use Rattle.chart.proofs.Theorems.{sound-is}
use Rattle.chart.specs.Chart.{class_of}
use Rattle.chart.specs.Flags.{Flags}
use Rattle.chart.specs.Flat.{answer_of, sound, start_sound}
use Rattle.chart.specs.Numbers.{most_states}
use Rattle.mail.specs.Box.{room}
use Rattle.machine.proofs.Parts.{unstarted_deep, mail_deep, stays_deep, objects-start, objects-load, wants_stay, timers_stay}
use Rattle.machine.proofs.Tests.{within_low, within_high, unless-state, fault_state}
use Rattle.machine.specs.Charts.{load_tests, load, start_row, start_tests, started_at, start, flag_tests, flag_set, flag}
use Rattle.machine.specs.Inv.{Inv, references}
use Rattle.machine.specs.Numbers.{objects, slots, edition_of}
use Rattle.machine.specs.Reply.{Areas}
use Rattle.machine.specs.State.{State, depth_of, with_flags, with_loaded}

module _ (s : State) (i : Inv s) where
  -- nothing must hold of the flags
  flags_keep : (flags : ℕ → Flags) → Inv (with_flags flags s)
  unfolding references
  flags_keep flags = record {
    store = i.store;
    mail = i.mail;
    aside = i.aside;
    seats = i.seats;
    wants = i.wants;
    timers = i.timers;
    in_hand = i.in_hand;
    counted = i.counted;
  }

  pub loaded_keeps : (q : ℕ) → q < slots → Inv (with_loaded (set s.loaded q 1) s)
  unfolding references
  loaded_keeps q l = record {
    store = i.store;
    mail = i.mail;
    aside = i.aside;
    seats = objects-load s.objects s.loaded i.seats q l;
    wants = i.wants;
    timers = i.timers;
    in_hand = i.in_hand;
    counted = i.counted;
  }

  pub started_at_keeps : (p q depth rest : ℕ) → 1 ≤ p → p ≤ objects → q < slots → 1 ≤ depth → depth ≤ room →
      get_or s.loaded q 0 ≡ 1 → depth_of s p ≡ 0 → 1 ≤ rest → rest ≤ most_states (edition_of q) → Inv (started_at s p q depth rest)
  unfolding started_at references
  started_at_keeps p q depth rest low high is-slot deep most is-loaded new rest_low rest_high =
      let l : p - 1 < objects = omega arith in
      let stays = stays_deep s.objects.depths (p - 1) depth (omega (arith, i.seats.depths_length)) deep in
      record {
        store = i.store;
        mail = mail_deep s.boxes s.objects.depths (p - 1) i.mail l depth (omega (arith, i.seats.depths_length)) most (omega arith);
        aside = i.aside;
        seats = objects-start s.objects s.loaded i.seats (p - 1) depth rest q l rest_low rest_high is-slot is-loaded;
        wants = wants_stay s.wants s.objects.depths i.wants _ stays;
        timers = timers_stay s.timers s.objects.depths i.timers _ stays;
        in_hand = i.in_hand;
        counted = i.counted;
      }

-- The commands.
module _ (s : State) (z : Areas) (i : Inv s) where
  pub load_keeps : (d : List ℕ) (spoilt : Bool) (q : ℕ) → Inv (load spoilt q d s z).state
  unfolding load load_tests
  load_keeps d spoilt q =
      unless-state s z _ Inv i (load_tests spoilt q s z.tables) refl (λ t.
      fault_state s z _ Inv i (class_of (edition_of q) d) (loaded_keeps s i q (omega (arith, within_high))))

  pub start_keeps : (spoilt : Bool) (p q depth : ℕ) → Inv (start spoilt p q depth s z).state
  unfolding start start_tests start_sound answer_of
  start_keeps spoilt p q depth =
      unless-state s z _ Inv i (start_tests spoilt p q depth s z.tables) refl (λ t.
      let row = start_row z.tables q in
      let rest = (sound-is (edition_of q) row (and_left (sound (edition_of q) row) _ (not-false _ t.1.1.1.1.1.1.1.1.1.0))).next in
      started_at_keeps s i p q depth _
      (omega (arith, within_low)) (omega (arith, within_high)) (omega (arith, within_high)) (omega (arith, within_low)) (omega (arith, within_high))
      (eqb-true _ 1 (not-false _ t.1.1.1.1.1.1.1.0))
      (unstarted_deep s p t.1.1.1.1.1.1.1.1.0)
      rest.0 rest.1)

  pub flag_keeps : (spoilt : Bool) (p f v : ℕ) → Inv (flag spoilt p f v s z).state
  unfolding flag flag_tests flag_set
  flag_keeps spoilt p f v = unless-state s z _ Inv i (flag_tests spoilt p f v s) refl (λ t. flags_keep s i _)
