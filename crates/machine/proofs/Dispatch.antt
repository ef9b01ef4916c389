-- What holds of every command's answer holds of the answer to any record.
use mathlib.Core.Bool.{Bool, true, false}
use mathlib.Core.List.{List}
use Prim.Native.Nat.{ℕ}
use Rattle.machine.specs.Aside
use Rattle.machine.specs.Charts
use Rattle.machine.specs.Clocks
use Rattle.machine.specs.Events
use Rattle.machine.specs.Machine.{arg, choose, command, answer_to}
use Rattle.machine.specs.Reply.{FORM, no, Areas, Answer, answer}
use Rattle.machine.specs.State.{State}
use Rattle.machine.specs.Steps

module _ (P : Answer → Type 0) where
  pub choose_all : (t : Bool) (a b : Answer) → P a → P b → P (choose t a b)
  unfolding choose
  choose_all true a b h k = h
  choose_all false a b h k = k

-- P holds of what each command answers, whatever its arguments, and of FORM for any other record. LOAD's slot is that of the record r, for
-- it decides what a fault of the chart d is.
pub record OfEach (P : Answer → Type 0) (r d : List ℕ) (s : State) (z : Areas) : Type 0 where
  pub load : (spoilt : Bool) → P (Charts.load spoilt (arg r 1) d s z)
  pub start : (spoilt : Bool) (p q depth : ℕ) → P (Charts.start spoilt p q depth s z)
  pub new : (spoilt : Bool) (g n : ℕ) (payload : List ℕ) → P (Events.new spoilt g n payload s z)
  pub post : (spoilt : Bool) (b gen p margin : ℕ) → P (Events.post spoilt b gen p margin s z)
  pub post_front : (spoilt : Bool) (b gen p : ℕ) → P (Events.post_front spoilt b gen p s z)
  pub publish : (spoilt : Bool) (b gen : ℕ) → P (Events.publish spoilt b gen s z)
  pub subscribe : (spoilt : Bool) (p g : ℕ) → P (Events.subscribe spoilt p g s z)
  pub unsubscribe : (spoilt : Bool) (p g : ℕ) → P (Events.unsubscribe spoilt p g s z)
  pub hold : (spoilt : Bool) (b gen : ℕ) → P (Events.hold spoilt b gen s z)
  pub release : (spoilt : Bool) (b gen : ℕ) → P (Events.release spoilt b gen s z)
  pub drop_event : (spoilt : Bool) (b gen : ℕ) → P (Events.drop_event spoilt b gen s z)
  pub next : (spoilt : Bool) → P (Steps.next spoilt s z)
  pub end : (spoilt : Bool) → P (Steps.end spoilt s z)
  pub arm : (spoilt : Bool) (t p g ticks interval : ℕ) → P (Clocks.arm spoilt t p g ticks interval s z)
  pub disarm : (spoilt : Bool) (t : ℕ) → P (Clocks.disarm spoilt t s z)
  pub tick : (spoilt : Bool) → P (Clocks.tick spoilt s z)
  pub read : (spoilt : Bool) (b gen : ℕ) → P (Events.read spoilt b gen s z)
  pub drain : (spoilt : Bool) (budget : ℕ) → P (Steps.drain spoilt budget s z)
  pub defer : (spoilt : Bool) (q : ℕ) → P (Aside.defer spoilt q s z)
  pub recall : (spoilt : Bool) (q p : ℕ) → P (Aside.recall spoilt q p s z)
  pub flush : (spoilt : Bool) (q : ℕ) → P (Aside.flush spoilt q s z)
  pub flag : (spoilt : Bool) (p f v : ℕ) → P (Charts.flag spoilt p f v s z)
  pub form : P (answer s (no FORM) z)

module _ (P : Answer → Type 0) (r d : List ℕ) (s : State) (z : Areas) (all : OfEach P r d s z) where
  pub command_all : (n : ℕ) → P (command n r d s z)
  unfolding command
  command_all n =
      choose_all P _ _ _ (all.load _)
      (choose_all P _ _ _ (all.start _ _ _ _)
      (choose_all P _ _ _ (all.new _ _ _ _)
      (choose_all P _ _ _ (all.post _ _ _ _ _)
      (choose_all P _ _ _ (all.post_front _ _ _ _)
      (choose_all P _ _ _ (all.publish _ _ _)
      (choose_all P _ _ _ (all.subscribe _ _ _)
      (choose_all P _ _ _ (all.unsubscribe _ _ _)
      (choose_all P _ _ _ (all.hold _ _ _)
      (choose_all P _ _ _ (all.release _ _ _)
      (choose_all P _ _ _ (all.drop_event _ _ _)
      (choose_all P _ _ _ (all.next _)
      (choose_all P _ _ _ (all.end _)
      (choose_all P _ _ _ (all.arm _ _ _ _ _ _)
      (choose_all P _ _ _ (all.disarm _ _)
      (choose_all P _ _ _ (all.tick _)
      (choose_all P _ _ _ (all.read _ _ _)
      (choose_all P _ _ _ (all.drain _ _)
      (choose_all P _ _ _ (all.defer _ _)
      (choose_all P _ _ _ (all.recall _ _ _)
      (choose_all P _ _ _ (all.flush _ _)
      (choose_all P _ _ _ (all.flag _ _ _ _)
      all.form)))))))))))))))))))))

  pub answer_all : P (answer_to s r d z)
  unfolding answer_to
  answer_all = choose_all P _ _ _ (command_all _) all.form
