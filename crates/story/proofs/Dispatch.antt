-- What holds of each command's answer, for the record that names it, holds of the answer to any record.
use mathlib.Core.Bool.{Bool, true, false}
use mathlib.Core.List.{List}
use mathlib.Core.Logic.{◌⊎◌, inl, inr}
use mathlib.Core.Path.{◌≡◌, refl}
use Prim.Native.Nat.{ℕ, zero, suc, ◌<◌}
use native.Mathlib.Omega.{arith}
use borrow.Author.Tests.{eqb-true, eqb-false, lt-ltb}
use lib.Dec.{eqb, ltb}
use lib.ListN.{length}
use Rattle.ground.specs.Bools.{or_right}
use Rattle.machine.specs.Aside
use Rattle.machine.specs.Charts
use Rattle.machine.specs.Clocks
use Rattle.machine.specs.Events
use Rattle.machine.specs.Machine.{arg, arg16, generation, payload, spoilt, spoilt_new, choose, command, answer_to}
use Rattle.machine.specs.Numbers.{record_bytes, outside}
use Rattle.machine.specs.Reply.{FORM, no, Areas, Answer, answer}
use Rattle.machine.specs.State.{State}
use Rattle.machine.specs.Steps
use Rattle.story.specs.Table.{FLAG}

module _ (P : Answer → Type 0) where
  choose_pick : (t : Bool) (a b : Answer) → (t ≡ true → P a) → (t ≡ false → P b) → P (choose t a b)
  unfolding choose
  choose_pick true a b f g = f refl
  choose_pick false a b f g = g refl

  is_one_of : (n k : ℕ) (a b : Answer) → (n ≡ k → P a) → (eqb n k ≡ false → P b) → P (choose (eqb n k) a b)
  is_one_of n k a b f g = choose_pick (eqb n k) a b (λ e. f (eqb-true n k e)) g

-- P holds of what the record r makes a command answer, if it names that command, and of FORM.
pub record ByRecord (P : Answer → Type 0) (r d : List ℕ) (s : State) (z : Areas) : Type 0 where
  pub load : arg r 0 ≡ 1 → P (Charts.load (spoilt 1 r) (arg r 1) d s z)
  pub start : arg r 0 ≡ 2 → P (Charts.start (spoilt 3 r) (arg r 1) (arg r 2) (arg r 3) s z)
  pub new : arg r 0 ≡ 3 → P (Events.new (spoilt_new (arg r 2) r) (arg r 1) (arg r 2) (payload r) s z)
  pub post : arg r 0 ≡ 4 → P (Events.post (spoilt 6 r) (arg r 1) (generation r) (arg r 5) (arg r 6) s z)
  pub post_front : arg r 0 ≡ 5 → P (Events.post_front (spoilt 5 r) (arg r 1) (generation r) (arg r 5) s z)
  pub publish : arg r 0 ≡ 6 → P (Events.publish (spoilt 4 r) (arg r 1) (generation r) s z)
  pub subscribe : arg r 0 ≡ 7 → P (Events.subscribe (spoilt 2 r) (arg r 1) (arg r 2) s z)
  pub unsubscribe : arg r 0 ≡ 8 → P (Events.unsubscribe (spoilt 2 r) (arg r 1) (arg r 2) s z)
  pub hold : arg r 0 ≡ 9 → P (Events.hold (spoilt 4 r) (arg r 1) (generation r) s z)
  pub release : arg r 0 ≡ 10 → P (Events.release (spoilt 4 r) (arg r 1) (generation r) s z)
  pub drop_event : arg r 0 ≡ 11 → P (Events.drop_event (spoilt 4 r) (arg r 1) (generation r) s z)
  pub next : arg r 0 ≡ 12 → P (Steps.next (spoilt 0 r) s z)
  pub end : arg r 0 ≡ 13 → P (Steps.end (spoilt 0 r) s z)
  pub arm : arg r 0 ≡ 14 → P (Clocks.arm (spoilt 7 r) (arg r 1) (arg r 2) (arg r 3) (arg16 r 4) (arg16 r 6) s z)
  pub disarm : arg r 0 ≡ 15 → P (Clocks.disarm (spoilt 1 r) (arg r 1) s z)
  pub tick : arg r 0 ≡ 16 → P (Clocks.tick (spoilt 0 r) s z)
  pub read : arg r 0 ≡ 17 → P (Events.read (spoilt 4 r) (arg r 1) (generation r) s z)
  pub drain : arg r 0 ≡ 18 → P (Steps.drain (spoilt 1 r) (arg r 1) s z)
  pub defer : arg r 0 ≡ 19 → P (Aside.defer (spoilt 1 r) (arg r 1) s z)
  pub recall : arg r 0 ≡ 20 → P (Aside.recall (spoilt 2 r) (arg r 1) (arg r 2) s z)
  pub flush : arg r 0 ≡ 21 → P (Aside.flush (spoilt 1 r) (arg r 1) s z)
  pub flag : arg r 0 ≡ 22 → P (Charts.flag (spoilt 3 r) (arg r 1) (arg r 2) (arg r 3) s z)

-- n is none of 1 to k.
Beyond : ℕ → ℕ → Type 0
Beyond k n = n ≡ 0 ⊎ (k < n)

beyond_none : (n : ℕ) → Beyond 0 n
unfolding Beyond
beyond_none zero = inl refl
beyond_none (suc n) = inr (omega arith)

beyond_more : (k n : ℕ) → Beyond k n → eqb n (suc k) ≡ false → Beyond (suc k) n
unfolding Beyond
beyond_more k n (inl z) e = inl z
beyond_more k n (inr l) e = inr (let ne = eqb-false n (suc k) e in omega arith)

beyond_outside : (n : ℕ) → Beyond FLAG n → outside 1 FLAG n ≡ true
unfolding Beyond outside
beyond_outside n (inl z) = rw z refl
beyond_outside n (inr l) = or_right (ltb n 1) (ltb FLAG n) (lt-ltb FLAG n l)

module _ (P : Answer → Type 0) (r d : List ℕ) (s : State) (z : Areas) (all : ByRecord P r d s z) where
  pub by_number : (outside 1 FLAG (arg r 0) ≡ true → P (answer s (no FORM) z)) → P (command (arg r 0) r d s z)
  unfolding command
  by_number form =
      is_one_of P (arg r 0) 1 _ _ all.load (λ e1.
      (is_one_of P (arg r 0) 2 _ _ all.start (λ e2.
      (is_one_of P (arg r 0) 3 _ _ all.new (λ e3.
      (is_one_of P (arg r 0) 4 _ _ all.post (λ e4.
      (is_one_of P (arg r 0) 5 _ _ all.post_front (λ e5.
      (is_one_of P (arg r 0) 6 _ _ all.publish (λ e6.
      (is_one_of P (arg r 0) 7 _ _ all.subscribe (λ e7.
      (is_one_of P (arg r 0) 8 _ _ all.unsubscribe (λ e8.
      (is_one_of P (arg r 0) 9 _ _ all.hold (λ e9.
      (is_one_of P (arg r 0) 10 _ _ all.release (λ e10.
      (is_one_of P (arg r 0) 11 _ _ all.drop_event (λ e11.
      (is_one_of P (arg r 0) 12 _ _ all.next (λ e12.
      (is_one_of P (arg r 0) 13 _ _ all.end (λ e13.
      (is_one_of P (arg r 0) 14 _ _ all.arm (λ e14.
      (is_one_of P (arg r 0) 15 _ _ all.disarm (λ e15.
      (is_one_of P (arg r 0) 16 _ _ all.tick (λ e16.
      (is_one_of P (arg r 0) 17 _ _ all.read (λ e17.
      (is_one_of P (arg r 0) 18 _ _ all.drain (λ e18.
      (is_one_of P (arg r 0) 19 _ _ all.defer (λ e19.
      (is_one_of P (arg r 0) 20 _ _ all.recall (λ e20.
      (is_one_of P (arg r 0) 21 _ _ all.flush (λ e21.
      (is_one_of P (arg r 0) 22 _ _ all.flag (λ e22.
      form (beyond_outside _ (
      beyond_more 21 _ (beyond_more 20 _ (beyond_more 19 _ (beyond_more 18 _ (
      beyond_more 17 _ (beyond_more 16 _ (beyond_more 15 _ (beyond_more 14 _ (beyond_more 13 _ (beyond_more 12 _ (
      beyond_more 11 _ (beyond_more 10 _ (beyond_more 9 _ (beyond_more 8 _ (beyond_more 7 _ (beyond_more 6 _ (
      beyond_more 5 _ (beyond_more 4 _ (beyond_more 3 _ (beyond_more 2 _ (beyond_more 1 _ (beyond_more 0 _ (
      beyond_none _) e1) e2) e3) e4) e5) e6) e7) e8) e9) e10) e11) e12) e13) e14) e15) e16) e17) e18) e19) e20) e21) e22)))))))))))))))))))))))))))))))))))))))))))))

  pub by_record : P (answer s (no FORM) z) → P (answer_to s r d z)
  unfolding answer_to
  by_record form = choose_pick P (eqb (length r) record_bytes) _ _ (λ e. by_number (λ u. form)) (λ e. form)
