-- The commands on steps keep the invariant.
use mathlib.Core.Bool.{Bool, true, false}
use mathlib.Core.List.{List}
use mathlib.Core.Path.{◌≡◌, refl, sym}
use Prim.Native.Nat.{ℕ, zero, suc, ◌+◌, ◌*◌, ◌-◌, ◌≤◌, ◌<◌}
use native.Mathlib.Omega.{arith}
use borrow.Author.Tests.{eqb-true, eqb-false, eq-eqb, not-false}
use lib.Dec.{eqb}
use lib.ListN.{length}
use Rattle.ground.specs.Bools.{cond_pick, no_yes}
use Rattle.chart.proofs.Theorems.{taken-within}
use Rattle.chart.specs.Flat.{place}
use Rattle.chart.specs.Numbers.{each, most_states, slot_size, row_size}
use Rattle.chart.specs.declared.read.Edition.{Edition}
use Rattle.chart.specs.declared.read.Edition.TheVariants.{Plain, Guarded}
use Rattle.mail.specs.Box.{box_at, front, one}
use Rattle.mail.specs.Entry.{entry_of}
use Rattle.mail.specs.Laws.{highest-is, occurrences_took}
use Rattle.mail.specs.declared.Hand.{Hand}
use Rattle.mail.specs.declared.Hand.TheVariants.{Nothing, Block, Timer}
use Rattle.pool.specs.Cell.{fewer}
use Rattle.pool.specs.Row.{at, blocks, changed}
use Rattle.machine.proofs.Blocks.{events_inv}
use Rattle.machine.proofs.Counts.{refers, fewer_none, live_counted, counted-fewer, entry_in_hand}
use Rattle.machine.proofs.Parts.{store_changed, mail_took, objects-rest}
use Rattle.machine.proofs.Tests.{NoneHolds, none_holds, unless-state}
use Rattle.machine.specs.Inv.{Inv, references, count_in_hand, is_live, IsSignal, IsEvent, InHand}
use Rattle.machine.specs.Numbers.{objects, slots, edition_of}
use Rattle.machine.specs.Reply.{Areas, BothTables, lowest}
use Rattle.machine.specs.State.{State, depth_of, rest_of, is_open, with_hand}
use Rattle.machine.specs.Steps.{
  to_run,
  slot_to_run,
  coming,
  signal_of,
  next_rows,
  next_answer,
  step_tests,
  next_tests,
  stepped,
  next,
  let_go_hand,
  ended,
  end_tests,
  end,
  Drained,
  logged,
  drain_from,
  drain_tests,
  drain_done,
  drain,
}

pub closed_hand : (h : Hand) → is_open h ≡ false → h ≡ Nothing
unfolding is_open
closed_hand Nothing e = refl
closed_hand (Block b) e = no_yes (sym e)
closed_hand (Timer t g) e = no_yes (sym e)

pub event_in_hand : (h : Hand) → IsEvent h → InHand h
unfolding IsEvent InHand
event_in_hand Nothing e = tt
event_in_hand (Block b) e = e
event_in_hand (Timer t g) e = e

-- The object of a step has mail, and its front entry is an event.
pub record Ready (s : State) : Type 0 where
  pub low : 1 ≤ to_run s
  pub high : to_run s ≤ length s.boxes
  pub mail : 0 < length (box_at s.boxes (to_run s - 1))

pub ready : (s : State) → eqb (to_run s) 0 ≡ false → Ready s
ready s e =
    let f = highest-is s.boxes _ in
    let l : 0 < to_run s = let ne = eqb-false (to_run s) 0 e in omega arith in
    record { low = l; high = f.most; mail = f.has_mail l }

pub step_ready : (s : State) (tables : BothTables) → lowest (step_tests s tables) ≡ 0 → Ready s
unfolding step_tests
step_ready s tables e = ready s (none_holds (step_tests s tables) refl e).0

pub coming-event : (s : State) → Inv s → Ready s → IsEvent (coming s)
unfolding coming
coming-event s i r = i.mail.entries (to_run s - 1) 0 r.mail

-- a block that comes is live, for it is referred to
pub coming_live : (s : State) (b : ℕ) → Inv s → Ready s → coming s ≡ Block b → is_live (at s.cells b) ≡ true
unfolding coming references count_in_hand IsEvent
coming_live s b i r e =
    let l : b < blocks = rw e at (coming-event s i r) in
    let here : count_in_hand (coming s) b ≡ 1 = rw (e, eq-eqb b b refl) refl in
    live_counted (at s.cells b)
    (omega (arith, i.counted b l, occurrences_took s.boxes (to_run s - 1) r.mail (entry_of (Block b)), entry_in_hand (front s.boxes (to_run s - 1)) b l))

-- The rows for a state and signal lie in the table of a slot.
rows_end : (e : Edition) (x g : ℕ) → 1 ≤ x → x ≤ most_states e → IsSignal g → place e x g 0 + row_size * each e ≤ slot_size e
unfolding place
rows_end Plain x g low high is = omega arith
rows_end Guarded x g low high is = omega arith

-- Where the rows of a step stand: its slot, its state of rest and its signal, and that they lie in the slot's table.
pub record RowsWithin (s : State) : Type 0 where
  pub slot : slot_to_run s < slots
  pub rest_low : 1 ≤ rest_of s (to_run s)
  pub rest_high : rest_of s (to_run s) ≤ most_states (edition_of (slot_to_run s))
  pub signal : IsSignal (signal_of s (coming s))
  pub end : let e = edition_of (slot_to_run s) in place e (rest_of s (to_run s)) (signal_of s (coming s)) 0 + row_size * each e ≤ slot_size e

pub rows-within : (s : State) → Inv s → Ready s → RowsWithin s
unfolding signal_of IsEvent
rows-within s i r =
    let deep : 0 < depth_of s (to_run s) = omega (arith, i.mail.room (to_run s - 1), r.mail) in
    let rest = i.seats.rested (to_run s - 1) deep in
    let seat = i.seats.seated (to_run s - 1) deep in
    let g = signal (coming s) refl in
    record { slot = seat.0; rest_low = rest.0; rest_high = rest.1; signal = g; end = rows_end _ _ _ rest.0 rest.1 g }
  where
    signal : (h : Hand) → coming s ≡ h → IsSignal (signal_of s h)
    signal Nothing e = absurd (rw e at (coming-event s i r))
    signal (Block b) e = i.store.signal b (coming_live s b i r e)
    signal (Timer t g) e = (rw e at (coming-event s i r)).1

-- The reference moves from the mailbox to the hand.
pub stepped_keeps : (s : State) (tables : BothTables) → Inv s → s.hand ≡ Nothing → NoneHolds (step_tests s tables) → Inv (stepped s tables)
unfolding stepped step_tests next_answer references coming count_in_hand
stepped_keeps s tables i e t =
    let r = ready s t.0 in
    let w = rows-within s i r in
    let n = taken-within _ _ (next_rows s tables) _ (not-false _ t.1.0) w.rest_low w.rest_high in
    let l : to_run s - 1 < objects = omega (arith, r.low, r.high, i.mail.boxes-length) in
    record {
      store = i.store;
      mail = mail_took s.boxes s.objects.depths (to_run s - 1) i.mail l;
      aside = i.aside;
      seats = objects-rest s.objects s.loaded i.seats (to_run s - 1) _ l n.low n.high;
      wants = i.wants;
      timers = i.timers;
      in_hand = event_in_hand (coming s) (coming-event s i r);
      counted = λ b h.
          let empty : count_in_hand s.hand b ≡ 0 = rw e refl in
          omega (arith, i.counted b h, occurrences_took s.boxes (to_run s - 1) r.mail (entry_of (Block b)), entry_in_hand (front s.boxes (to_run s - 1)) b h);
    }

-- The hand lets go.
module _ (s : State) (i : Inv s) where
  not_held : (h : Hand) → s.hand ≡ h → ((b : ℕ) → count_in_hand h b ≡ 0) → Inv (with_hand Nothing s)
  unfolding references count_in_hand InHand
  not_held h e none =
      events_inv s s.cells s.events s.boxes s.sides Nothing i i.store i.mail i.aside tt (λ b l.
      let empty : count_in_hand s.hand b ≡ 0 = rw e (none b) in
      omega (arith, i.counted b l))

  let_go_keeps : (h : Hand) → s.hand ≡ h → Inv (with_hand Nothing (let_go_hand h s))
  unfolding let_go_hand references count_in_hand InHand
  let_go_keeps Nothing e = not_held Nothing e (λ b. refl)
  let_go_keeps (Block b) e =
      let l : b < blocks = rw e at i.in_hand in
      events_inv s (changed fewer s.cells b) s.events s.boxes s.sides Nothing i
      (store_changed s.cells s.events b i.store l fewer fewer_none)
      i.mail
      i.aside
      tt
      (counted-fewer s.cells (references s) (refers s.events.holds s.boxes s.sides Nothing) b i.store.cells-length l i.counted (λ k m.
      let holding : count_in_hand s.hand k ≡ one (eqb b k) = rw e refl in
      omega arith))
  let_go_keeps (Timer t g) e = not_held (Timer t g) e (λ b. refl)

  pub ended_keeps : Inv (ended s)
  unfolding ended
  ended_keeps = let_go_keeps s.hand refl

pub ended_hand : (s : State) → (ended s).hand ≡ Nothing
unfolding ended
ended_hand s = refl

-- Of DRAIN every step is one of NEXT and END.
module _ (tables : BothTables) where
  pub step_keeps : (s : State) → Inv s → s.hand ≡ Nothing → lowest (step_tests s tables) ≡ 0 → Inv (ended (stepped s tables))
  unfolding step_tests
  step_keeps s i e t = ended_keeps (stepped s tables) (stepped_keeps s tables i e (none_holds (step_tests s tables) refl t))

  pub drain_from_keeps : (k n : ℕ) (s : State) (log : List ℕ) → Inv s → s.hand ≡ Nothing → Inv (drain_from k n s tables log).state
  unfolding drain_from
  drain_from_keeps zero n s log i e = i
  drain_from_keeps (suc k) n s log i e =
      cond_pick (λ (x : Drained). Inv x.state) (eqb (lowest (step_tests s tables)) 0) _ _
      (λ t. drain_from_keeps k (n + 1) (ended (stepped s tables)) (logged s tables n log) (step_keeps s i e (eqb-true _ 0 t)) (ended_hand (stepped s tables)))
      (λ t. i)

-- The commands.
module _ (s : State) (z : Areas) (i : Inv s) where
  pub next_keeps : (spoilt : Bool) → Inv (next spoilt s z).state
  unfolding next next_tests step_tests
  next_keeps spoilt =
      unless-state s z _ Inv i (next_tests spoilt s z.tables) refl (λ t.
      stepped_keeps s z.tables i (closed_hand s.hand t.1.1.1.0) t.1.1.1.1)

  pub end_keeps : (spoilt : Bool) → Inv (end spoilt s z).state
  unfolding end end_tests
  end_keeps spoilt = unless-state s z _ Inv i (end_tests spoilt s) refl (λ t. ended_keeps s i)

  pub drain_keeps : (spoilt : Bool) (budget : ℕ) → Inv (drain spoilt budget s z).state
  unfolding drain drain_tests drain_done
  drain_keeps spoilt budget =
      unless-state s z _ Inv i (drain_tests spoilt s z.tables z.log) refl (λ t.
      drain_from_keeps z.tables budget 0 s z.log i (closed_hand s.hand t.1.1.1.1.0))
