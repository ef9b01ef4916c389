-- Demand 2, NEXT: it takes the front event of the highest object with mail.
use mathlib.Core.List.{List, [], ◌∷◌}
use mathlib.Core.Path.{◌≡◌, refl, sym, subst}
use Prim.Native.Nat.{ℕ, ◌-◌, ◌≤◌}
use native.Mathlib.Omega.{arith}
use lib.ListN.{length, get_or}
use Rattle.mail.specs.Box.{rest}
use Rattle.mail.specs.Laws.{highest-is, changed-here, changed_other}
use Rattle.mail.specs.declared.Hand.{Hand}
use Rattle.mail.specs.declared.Hand.TheVariants.{Nothing, Block, Timer}
use Rattle.pool.specs.Cell.{last_generation}
use Rattle.pool.specs.Row.{generation_at}
use Rattle.machine.proofs.KeepsSteps.{Ready, ready}
use Rattle.machine.proofs.Tests.{none_holds}
use Rattle.machine.specs.Reply.{Areas, Answer, BothTables, answer, reply_of, bytes}
use Rattle.machine.specs.State.{State}
use Rattle.machine.specs.Steps.{to_run, slot_to_run, coming, first_byte, generation_in, step_tests, next_tests, stepped, next_says}
use Rattle.story.specs.Calls.{Call, Story, kernel, answer_in}
use Rattle.story.specs.Demands.{Taken}
use Rattle.story.specs.Table.{NEXT}
use Rattle.story.specs.Terms.{generation, Did, Takes}
use Rattle.story.proofs.Handles.{EndsWith, next_ends}
use Rattle.story.proofs.Lasting.{last_most}
use Rattle.story.proofs.Lent.{WholeFor, whole_for}
use Rattle.story.proofs.Made.{next_made}
use Rattle.story.proofs.Refusals.{kept}

-- What NEXT answers, byte by byte, and where it leaves the kernel.
pub record Steps (s : State) (tables : BothTables) (a : Answer) : Type 0 where
  pub state : a.state ≡ stepped s tables
  pub object : get_or a.reply 1 0 ≡ to_run s
  pub ends : EndsWith (first_byte (coming s)) (generation_in s (coming s)) a.reply
  pub hand : a.state.hand ≡ coming s
  pub reply : a.reply ≡ reply_of (next_says s tables)

steps_of : (s : State) (z : Areas) (a : Answer) → a ≡ answer (stepped s z.tables) (next_says s z.tables) z → Steps s z.tables a
unfolding stepped next_says reply_of bytes
steps_of s z a e = rw e (record {
  state = refl;
  object = refl;
  ends = next_ends s z.tables;
  hand = refl;
  reply = refl;
})

pub next-steps : (h : Story) (c : Call) → Did NEXT h c → Steps (kernel h) c.areas.tables (answer_in h c)
next-steps h c did =
    steps_of (kernel h) c.areas _ (next_made (kernel h) c.command c.chart c.areas did.1 did.0).is

-- the generation of any event, which is at most the last
event_most : (h : Story) (x : Hand) → generation_in (kernel h) x ≤ last_generation
unfolding generation_in generation_at
event_most h Nothing = omega arith
event_most h (Block b) = last_most h b
event_most h (Timer t g) = omega arith

pub next-generation : (h : Story) (c : Call) → Did NEXT h c → generation h c ≡ generation_in (kernel h) (coming (kernel h))
next-generation h c did = (next-steps h c did).ends.generation (event_most h (coming (kernel h)))

pub next_ready : (h : Story) (c : Call) → Did NEXT h c → Ready (kernel h)
unfolding next_tests step_tests
next_ready h c did =
    let m = next_made (kernel h) c.command c.chart c.areas did.1 did.0 in
    ready (kernel h) (none_holds (next_tests _ (kernel h) c.areas.tables) refl m.none).1.1.1.1.0

pub next_whole : (h : Story) (c : Call) → Did NEXT h c → WholeFor (slot_to_run (kernel h)) c.areas.tables
unfolding next_tests step_tests
next_whole h c did =
    let m = next_made (kernel h) c.command c.chart c.areas did.1 did.0 in
    let n = none_holds (next_tests _ (kernel h) c.areas.tables) refl m.none in
    whole_for (slot_to_run (kernel h)) c.areas.tables n.1.0 (rw n.1.1.1.1.0 at n.1.1.0)

pub empty : (l : List ℕ) → length l ≡ 0 → l ≡ []
empty [] e = refl
empty (x ∷ l) e = absurd (omega arith)

takes : (h : Story) (c : Call) → Did NEXT h c → Takes h c (to_run (kernel h))
unfolding kernel stepped coming
takes h c did =
    let s = kernel h in
    let r = next_ready h c did in
    let x = next-steps h c did in
    let e = x.state in
    record {
      low = r.low;
      high = omega (arith, r.high, (kept h).mail.boxes-length);
      mail = r.mail;
      highest = λ q l m. empty _ ((highest-is s.boxes (length s.boxes)).none_above (q - 1) (omega arith) (omega (arith, (kept h).mail.boxes-length)));
      in_hand = x.hand;
      left = rw e (changed-here rest s.boxes (to_run s - 1) (omega (arith, r.low, r.high)));
      others = λ q l ne. rw e (changed_other rest s.boxes (to_run s - 1) (q - 1) (λ n. ne (omega (arith, r.low))));
      handle = (rw x.hand x.ends.event, rw x.hand (next-generation h c did));
    }

pub taken : Taken
taken h c did = subst (Takes h c) (sym (next-steps h c did).object) (takes h c did)
