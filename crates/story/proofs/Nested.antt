-- Demand 3: START and NEXT answer as the nested rules do.
use mathlib.Core.Path.{◌≡◌, refl, sym, ap, ◌∙◌}
use Prim.Native.Nat.{ℕ, zero, suc, ◌-◌, ◌<◌}
use native.Mathlib.Omega.{arith}
use borrow.Author.Tests.{eqb-true}
use lib.ListN.{length, get_or}
use lib.Seq.{get_or-set_same}
use Rattle.chart.proofs.Theorems.{agreement}
use Rattle.chart.specs.Step
use Rattle.chart.specs.Step.{step}
use Rattle.machine.specs.Charts.{started_at}
use Rattle.machine.specs.Numbers.{edition_of}
use Rattle.machine.specs.Reply.{BothTables, reply_of}
use Rattle.machine.specs.State.{State, rest_of}
use Rattle.machine.specs.Steps.{to_run, slot_to_run, coming, signal_of, first_byte, generation_in, next_answer, stepped, next_says}
use Rattle.story.specs.Calls.{Call, Story, then, kernel, OnlyKernel, left_tables, OnlyKernelTables}
use Rattle.story.specs.Demands
use Rattle.story.specs.Table.{NEXT}
use Rattle.story.specs.Terms.{argument, command_of, reply, object, event, generation, Did, chart_in, next_call, end_call, steps, says, is_up, signal_taken, nested}
use Rattle.story.proofs.Charted.{same_answer, next-answer}
use Rattle.story.proofs.Lent.{Whole, tables-before, tables-lent, slot_lent, tables_same}
use Rattle.story.proofs.Pairs.{drained, drain_whole}
use Rattle.story.proofs.Refusals.{kept}
use Rattle.story.proofs.Starting.{start_did}
use Rattle.story.proofs.Tables.{charted, start-lent, frame}
use Rattle.story.proofs.Taking.{next_ready, next-steps, next-generation, next_whole}

pub tables : Demands.Tables
tables h first only q l on =
    let x = charted h first only in
    let e : get_or (kernel h).loaded q 0 ≡ 1 = eqb-true _ 1 on in
    let t = x.table q l e in
    record { accepted = x.good q l e; table = t; agrees = rw t (agreement (edition_of q) (chart_in h q) (x.good q l e)) }

-- ## START
pub starts : Demands.Starts
unfolding kernel started_at reply_of
starts h c first only did =
    let p = argument c 1 in
    let m = start_did h c did in
    let v = start-lent h c first only (charted h first (tables-before first h c only)) did in
    let l : p - 1 < length (kernel h).objects.rests = omega (arith, (kept h).seats.rests_length, m.low, m.high) in (
      ap (λ a. a.reply) m.is ∙ ap (λ a. says p 0 0 0 a) v,
      ap (λ a. rest_of a.state p) m.is ∙ get_or-set_same (kernel h).objects.rests (p - 1) _ 0 l ∙ ap (λ a. a.next) v,
    )

-- ## NEXT
module _ (h : Story) (c : Call) (first : BothTables) (only : OnlyKernelTables first (then h c)) (did : Did NEXT h c) where
  abbrev s : State
  s = kernel h

  abbrev taken_step : Step.Answer
  taken_step = step (chart_in h (slot_to_run s)) (is_up h (to_run s)) (rest_of s (to_run s)) (signal_of s (coming s))

  is-taken : next_answer s c.areas.tables ≡ taken_step
  is-taken =
      same_answer s c.areas.tables (left_tables first h) (slot_lent first h c only (slot_to_run s) (next_whole h c did))
      ∙ next-answer s (left_tables first h) (chart_in h) (kept h) (next_ready h c did) (charted h first (tables-before first h c only))

  hand_is : (kernel (then h c)).hand ≡ coming s
  unfolding kernel
  hand_is = (next-steps h c did).hand

  is-nested : nested h c ≡ taken_step
  is-nested = rw ((next-steps h c did).object, hand_is) refl

  answers : reply h c ≡ says (object h c) (signal_taken h c) (event h c) (generation h c) (nested h c)
  unfolding next_says reply_of
  answers =
      let w = next-steps h c did in
      w.reply ∙ ap (λ a. says (to_run s) (signal_of s (coming s)) (first_byte (coming s)) (generation_in s (coming s)) a) is-taken
      ∙ sym (rw (is-nested, w.object, hand_is, w.ends.event, next-generation h c did) refl)

  rests_there : rest_of (kernel (then h c)) (object h c) ≡ (nested h c).next
  unfolding kernel stepped
  rests_there =
      let w = next-steps h c did in
      let r = next_ready h c did in
      ap (λ (p : ℕ). rest_of (kernel (then h c)) p) w.object
      ∙ ap (λ s. rest_of s (to_run (kernel h))) w.state
      ∙ get_or-set_same s.objects.rests (to_run s - 1) _ 0 (omega (arith, (kept h).mail.boxes-length, (kept h).seats.rests_length, r.low, r.high))
      ∙ ap (λ a. a.next) (is-taken ∙ sym is-nested)

pub nexts : Demands.Nexts
nexts h c first only did = (answers h c first only did, rests_there h c first only did)

-- ## DRAIN's steps
module _ (h : Story) (c : Call) (first : BothTables) (only : OnlyKernelTables first (then h c)) where
  -- NEXT and END leave the tables
  next-left : (g : Story) → OnlyKernelTables first (then g (next_call c)) → left_tables first (then g (next_call c)) ≡ left_tables first g
  unfolding next_call
  next-left g o = tables_same first g (next_call c) o ((frame g (next_call c)).tables (λ e. omega arith))

  end-left : (g : Story) → OnlyKernelTables first (then g (end_call c)) → left_tables first (then g (end_call c)) ≡ left_tables first g
  unfolding end_call
  end-left g o = tables_same first g (end_call c) o ((frame g (end_call c)).tables (λ e. omega arith))

  -- and are lent those that were left, if DRAIN is
  module _ (g : Story) (o : OnlyKernelTables first g) (e : left_tables first g ≡ c.areas.tables) where
    pub next_only : OnlyKernelTables first (then g (next_call c))
    unfolding next_call OnlyKernel
    next_only = ((o.0, λ l. sym (ap (λ t. t.plain) e)), (o.1, λ l. sym (ap (λ t. t.guarded) e)))

    end_only : OnlyKernelTables first (then g (end_call c))
    unfolding end_call OnlyKernel
    end_only = ((o.0, λ l. sym (ap (λ t. t.plain) e)), (o.1, λ l. sym (ap (λ t. t.guarded) e)))

  steps_only : Whole c.areas.tables → (k : ℕ) → OnlyKernelTables first (steps h c k) × (left_tables first (steps h c k) ≡ c.areas.tables)
  unfolding steps
  steps_only whole zero = (tables-before first h c only, sym (tables-lent first h c only whole))
  steps_only whole (suc k) =
      let w = steps_only whole k in
      let n = next_only (steps h c k) w.0 w.1 in
      let e = next-left (steps h c k) n ∙ w.1 in
      let m = end_only (then (steps h c k) (next_call c)) n e in
      (m, end-left (then (steps h c k) (next_call c)) m ∙ e)

next_named : (c : Call) → command_of (next_call c) ≡ NEXT
unfolding next_call
next_named c = refl

pub drain_steps : Demands.DrainSteps
drain_steps h c first only did i l =
    let w = drained h c did in
    let k = steps_only h c first only (drain_whole h c did) i in
    w.lines i l ∙ (nexts (steps h c i) (next_call c) first (next_only h c first only (steps h c i) k.0 k.1) (next_named c, w.done i l)).0
