-- PUBLISH keeps the invariant: the receivers are distinct objects, so that each has its place when its turn comes.
use mathlib.Core.Bool.{true, false, cond}
use mathlib.Core.Path.{◌≡◌, refl, sym, ◌∙◌}
use Prim.Native.Nat.{ℕ, zero, suc, ◌-◌, ◌≤◌, ◌<◌}
use native.Mathlib.Decide.{ℕ_discrete}
use native.Mathlib.Omega.{arith}
use borrow.Author.Tests.{eqb-false}
use lib.Dec.{eqb}
use lib.ListN.{length}
use Rattle.ground.specs.Bools.{cond_pick}
use Rattle.mail.specs.Box.{behind}
use Rattle.mail.specs.Entry.{entry_of}
use Rattle.mail.specs.Laws.{changed_other}
use Rattle.mail.specs.declared.Hand.TheVariants.{Block}
use Rattle.pool.specs.Cell.{more}
use Rattle.pool.specs.Laws.{changed-here}
use Rattle.pool.specs.Row.{at, blocks}
use Rattle.machine.proofs.Blocks.{posted_keeps, freed_new_keeps}
use Rattle.machine.proofs.Counts.{more_live}
use Rattle.machine.proofs.Tests.{or_false}
use Rattle.machine.specs.Events.{posted, full_receiver, published, publish_done}
use Rattle.machine.specs.Inv.{Inv, is_live}
use Rattle.machine.specs.Numbers.{objects}
use Rattle.machine.specs.Reply.{Areas}
use Rattle.machine.specs.State.{State, signal_in, room, subscribed}

-- PUBLISH: every subscriber of the first n objects has a place.
abbrev pub HaveRoom : State → ℕ → ℕ → Type 0
HaveRoom s g n = (p : ℕ) → 1 ≤ p → p ≤ n → subscribed s p g ≡ true → 0 < room s p

pub have_room : (s : State) (g n : ℕ) → full_receiver s g n ≡ false → HaveRoom s g n
unfolding full_receiver
have_room s g zero e p low high w = absurd (omega arith)
have_room s g (suc n) e p low high w = go (ℕ_discrete p (suc n)) (have_room s g n either.1)
  where
    either : (cond (subscribed s (suc n) g) (eqb (room s (suc n)) 0) false ≡ false) × (full_receiver s g n ≡ false)
    either = or_false _ _ e

    go : Dec (p ≡ suc n) → HaveRoom s g n → 0 < room s p
    go (yes q) f =
        let x : subscribed s (suc n) g ≡ true = rw q at w in
        let v : eqb (room s (suc n)) 0 ≡ false = rw x at either.0 in
        rw q (omega (arith, eqb-false (room s (suc n)) 0 v))
    go (no ne) f = f p low (omega arith) w

-- a block that was posted is live as before, and another object has the same room
pub posted_live : (s : State) (b p : ℕ) → b < length s.cells → is_live (at (posted s b p).cells b) ≡ is_live (at s.cells b)
unfolding posted
posted_live s b p l = rw (changed-here more s.cells b l) (more_live (at s.cells b))

pub posted-room : (s : State) (b p q : ℕ) → (q - 1 ≡ p - 1 → ⊥) → room (posted s b p) q ≡ room s q
unfolding posted
posted-room s b p q ne = rw (changed_other (behind (entry_of (Block b))) s.boxes (p - 1) (q - 1) ne)

pub posted_wants : (s : State) (b p q g : ℕ) → subscribed (posted s b p) q g ≡ subscribed s q g
unfolding posted
posted_wants s b p q g = refl

-- Each receiver has a place still when its turn comes: the ones before it are other objects.
module _ (g b : ℕ) (l : b < blocks) where
  pub published_keeps : (n : ℕ) (s : State) → n ≤ objects → Inv s → is_live (at s.cells b) ≡ true → HaveRoom s g n → Inv (published s g b n)
  unfolding published
  published_keeps zero s h i lives free = i
  published_keeps (suc n) s h i lives free =
      cond_pick (λ t. Inv (published t g b n)) (subscribed s (suc n) g) (posted s b (suc n)) s
      (λ w. published_keeps n (posted s b (suc n)) (omega arith)
      (posted_keeps s b i l lives (suc n) (omega arith) h (free (suc n) (omega arith) (omega arith) w))
      (posted_live s b (suc n) (omega (arith, i.store.cells-length)) ∙ lives)
      (λ p low high v. rw (posted-room s b (suc n) p (λ e. omega arith)) (free p low (omega arith) (sym (posted_wants s b (suc n) p g) ∙ v))))
      (λ w. published_keeps n s (omega arith) i lives (λ p low high. free p low (omega arith)))

module _ (s : State) (z : Areas) (b : ℕ) (i : Inv s) (l : b < blocks) (lives : is_live (at s.cells b) ≡ true) where
  pub publish_done_keeps : (n : ℕ) → HaveRoom s (signal_in s b) objects → Inv (publish_done n b s z).state
  unfolding publish_done
  publish_done_keeps zero free = freed_new_keeps s b i l
  publish_done_keeps (suc n) free = published_keeps (signal_in s b) b l objects s (omega arith) i lives free
