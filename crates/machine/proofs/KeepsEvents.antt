-- The commands on events and their blocks keep the invariant.
use mathlib.Core.Bool.{Bool, true}
use mathlib.Core.List.{List}
use mathlib.Core.Path.{◌≡◌, refl}
use Prim.Native.Nat.{ℕ, ◌-◌, ◌≤◌, ◌<◌}
use native.Mathlib.Omega.{arith}
use borrow.Author.Tests.{eqb-false, leb-false, not-false}
use Rattle.pool.specs.Row.{found}
use Rattle.machine.proofs.Blocks.{posted_keeps, posted_front_keeps, held_keeps, released_keeps, freed_new_keeps, new_in_keeps}
use Rattle.machine.proofs.Counts.{live_handle}
use Rattle.machine.proofs.Parts.{started_deep, wants_set}
use Rattle.machine.proofs.Publish.{have_room, publish_done_keeps}
use Rattle.machine.proofs.Tests.{within_low, within_high, within-signal, within_block, unless-state}
use Rattle.machine.specs.Events.{new_tests, new, post_tests, post, post_front_tests, post_front, receivers, publish_tests, publish, subscribe_tests, wanting, subscribe, unsubscribe, hold_tests, hold, release_tests, release, drop_tests, drop_event, read_tests, read}
use Rattle.machine.specs.Inv.{Inv, references}
use Rattle.machine.specs.Numbers.{objects, most_bytes, signal_places}
use Rattle.machine.specs.Reply.{Areas}
use Rattle.machine.specs.State.{State, signal_in, holds_on, started}

-- SUBSCRIBE and UNSUBSCRIBE: 1 is written only for an object that is started.
pub wanting_keeps : (s : State) (p g v : ℕ) → Inv s → 1 ≤ p → p ≤ objects → g < signal_places → started s p ≡ true → Inv (wanting s p g v)
unfolding wanting references
wanting_keeps s p g v i low high m on = record {
  store = i.store;
  mail = i.mail;
  aside = i.aside;
  seats = i.seats;
  wants = wants_set s.wants s.objects.depths i.wants (p - 1) g v (omega arith) m (λ e. started_deep s p on);
  timers = i.timers;
  in_hand = i.in_hand;
  counted = i.counted;
}

-- The commands.
module _ (s : State) (z : Areas) (i : Inv s) where
  pub new_keeps : (spoilt : Bool) (g n : ℕ) (payload : List ℕ) → Inv (new spoilt g n payload s z).state
  unfolding new new_tests
  new_keeps spoilt g n payload =
      unless-state s z _ Inv i (new_tests spoilt g n s z.payloads) refl (λ t.
      new_in_keeps s g n i (within-signal g t.1.1.0) (within_high 0 most_bytes n t.1.1.1.0)
      (found s.cells n) payload z refl)

  pub post_keeps : (spoilt : Bool) (b gen p margin : ℕ) → Inv (post spoilt b gen p margin s z).state
  unfolding post post_tests
  post_keeps spoilt b gen p margin =
      unless-state s z _ Inv i (post_tests spoilt b gen p margin s) refl (λ t.
      posted_keeps s b i (within_block b t.1.0) (live_handle s.cells b gen t.1.1.1.1.0) p
      (omega (arith, within_low)) (omega (arith, within_high)) (omega (arith, leb-false)))

  pub post_front_keeps : (spoilt : Bool) (b gen p : ℕ) → Inv (post_front spoilt b gen p s z).state
  unfolding post_front post_front_tests
  post_front_keeps spoilt b gen p =
      unless-state s z _ Inv i (post_front_tests spoilt b gen p s) refl (λ t.
      posted_front_keeps s b i (within_block b t.1.0) (live_handle s.cells b gen t.1.1.1.0) p
      (omega (arith, within_low)) (omega (arith, within_high)) (omega (arith, leb-false)))

  pub publish_keeps : (spoilt : Bool) (b gen : ℕ) → Inv (publish spoilt b gen s z).state
  unfolding publish publish_tests
  publish_keeps spoilt b gen =
      unless-state s z _ Inv i (publish_tests spoilt b gen s) refl (λ t.
      publish_done_keeps s z b i (within_block b t.1.0) (live_handle s.cells b gen t.1.1.0) (receivers s (signal_in s b) objects)
      (have_room s (signal_in s b) objects t.1.1.1.0))

  pub subscribe_keeps : (spoilt : Bool) (p g : ℕ) → Inv (subscribe spoilt p g s z).state
  unfolding subscribe subscribe_tests
  subscribe_keeps spoilt p g =
      unless-state s z _ Inv i (subscribe_tests spoilt p g s) refl (λ t.
      wanting_keeps s p g 1 i (omega (arith, within_low)) (omega (arith, within_high)) (omega (arith, within_high)) (not-false _ t.1.1.1.0))

  pub unsubscribe_keeps : (spoilt : Bool) (p g : ℕ) → Inv (unsubscribe spoilt p g s z).state
  unfolding unsubscribe subscribe_tests
  unsubscribe_keeps spoilt p g =
      unless-state s z _ Inv i (subscribe_tests spoilt p g s) refl (λ t.
      wanting_keeps s p g 0 i (omega (arith, within_low)) (omega (arith, within_high)) (omega (arith, within_high)) (not-false _ t.1.1.1.0))

  pub hold_keeps : (spoilt : Bool) (b gen : ℕ) → Inv (hold spoilt b gen s z).state
  unfolding hold hold_tests
  hold_keeps spoilt b gen =
      unless-state s z _ Inv i (hold_tests spoilt b gen s) refl (λ t.
      held_keeps s b i (within_block b t.1.0) (live_handle s.cells b gen t.1.1.0) (omega (arith, leb-false)))

  pub release_keeps : (spoilt : Bool) (b gen : ℕ) → Inv (release spoilt b gen s z).state
  unfolding release release_tests
  release_keeps spoilt b gen =
      unless-state s z _ Inv i (release_tests spoilt b gen s) refl (λ t.
      released_keeps s b i (within_block b t.1.0) (omega (arith, eqb-false (holds_on s b) 0 t.1.1.1.0)))

  pub drop_event_keeps : (spoilt : Bool) (b gen : ℕ) → Inv (drop_event spoilt b gen s z).state
  unfolding drop_event drop_tests
  drop_event_keeps spoilt b gen =
      unless-state s z _ Inv i (drop_tests spoilt b gen s) refl (λ t. freed_new_keeps s b i (within_block b t.1.0))

  pub read_keeps : (spoilt : Bool) (b gen : ℕ) → Inv (read spoilt b gen s z).state
  unfolding read read_tests
  read_keeps spoilt b gen = unless-state s z _ Inv i (read_tests spoilt b gen s z.payloads) refl (λ t. i)
