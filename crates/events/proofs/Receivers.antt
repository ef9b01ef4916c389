-- PUBLISH: what the arrays of a kernel say of the receivers, and what is done.
use mathlib.Core.Bool.{Bool, true, false, cond}
use mathlib.Core.Path.{◌≡◌, refl}
use Prim.Native.Nat.{ℕ, zero, suc, ◌+◌, ◌-◌, ◌≤◌}
use native.Mathlib.Omega.{arith}
use lib.ListN.{get_or}
use Rattle.machine.proofs.Publish.{have_room}
use Rattle.machine.specs.Events.{freed_new, full_receiver, is_fresh, posted, publish_done, published, receivers}
use Rattle.machine.specs.Numbers.{objects}
use Rattle.machine.specs.Reply.{Areas, answer, done}
use Rattle.machine.specs.State.{State, signal_in, subscribed}
use Rattle.mail.specs.Box.{one, room}
use Rattle.publish.specs.Arrays.{HavePlaces, Reads}
use Rattle.state.specs.View.{state_of}
use Rattle.state.specs.declared.Kernel.{Kernel}

module _ (k : Kernel) where
  -- the arrays of a kernel are read by its state
  pub kernel_reads : Reads (state_of k) k.wants k.depths k.mail
  unfolding state_of
  kernel_reads = record { wants = refl; depths = refl; queued = λ q. refl }

  -- where no receiver is full each has a place
  pub have_places : (g : ℕ) → full_receiver (state_of k) g objects ≡ false → ((q : ℕ) → get_or k.depths q 0 ≤ room) → HavePlaces k.wants k.mail g objects
  unfolding state_of
  have_places g e deep p low high w = omega (arith, have_room (state_of k) g objects e p low high w, deep (p - 1))

-- where nobody subscribes nothing is posted
pub published-none : (s : State) (g b n : ℕ) → receivers s g n ≡ 0 → published s g b n ≡ s
unfolding receivers published
published-none s g b zero e = refl
published-none s g b (suc n) e = go (subscribed s (suc n) g) e (published-none s g b n)
  where
    go : (t : Bool) → one t + receivers s g n ≡ 0 → (receivers s g n ≡ 0 → published s g b n ≡ s) → published (cond t (posted s b (suc n)) s) g b n ≡ s
    go true z rest = absurd (omega arith)
    go false z rest = rest (omega arith)

-- what is done: with no subscriber, and with n of them
module _ (b : ℕ) (s : State) (z : Areas) (n : ℕ) where
  pub done_none : n ≡ 0 → publish_done n b s z ≡ answer (freed_new s b) (done 0 (one (is_fresh s b))) z
  unfolding publish_done
  done_none e = rw e refl

  pub done_some : (n ≡ 0 → ⊥) → publish_done n b s z ≡ answer (published s (signal_in s b) b objects) (done n 0) z
  unfolding publish_done
  done_some ne = some n ne
    where
      some : (n : ℕ) → (n ≡ 0 → ⊥) → publish_done n b s z ≡ answer (published s (signal_in s b) b objects) (done n 0) z
      some zero ne = absurd (ne refl)
      some (suc n) ne = refl
