-- Every command refuses as the table says, number for number.
use mathlib.Core.Bool.{Bool, true, false, cond, not, ◌&&◌, ◌||◌}
use mathlib.Core.List.{List}
use mathlib.Core.Path.{◌≡◌, refl, sym, ap, ◌∙◌}
use Prim.Native.Nat.{ℕ, zero, suc, ◌+◌, ◌-◌, ◌<◌, ◌≤◌}
use native.Mathlib.Omega.{arith}
use borrow.Author.Tests.{eqb-true, eqb-false, eq-eqb, ne_eqb, le-leb, lt-leb, le-ltb, ltb-true, ltb-false, not-true}
use lib.Dec.{eqb, ltb, leb, eqb-suc-zero}
use lib.ListN.{length, get_or}
use Rattle.std.proofs.Common.{Option, Some, None}
use Rattle.ground.specs.Bools.{no_yes}
use Rattle.ground.specs.Bytes.{blank}
use Rattle.ground.specs.Every.{every-at, every_all}
use Rattle.ground.specs.Range.{every, every_from}
use Rattle.ground.specs.Search.{First, first_is}
use Rattle.chart.specs.Chart.{class_of}
use Rattle.mail.specs.Box.{highest, queued}
use Rattle.mail.specs.Laws.{highest-is, highest_none, queued_took}
use Rattle.pool.specs.Cell.{Cell, is_free}
use Rattle.pool.specs.Row.{at, found_in, lowest_free}
use Rattle.pool.specs.declared.Span.{Span}
use Rattle.machine.specs.Aside
use Rattle.machine.specs.Aside.{recall_done}
use Rattle.machine.specs.Charts
use Rattle.machine.specs.Charts.{tables_bad, slot_bad, slot_used}
use Rattle.machine.specs.Clocks
use Rattle.machine.specs.Events
use Rattle.machine.specs.Events.{none_found, new_in, full_receiver, publish_done}
use Rattle.machine.specs.Inv.{Inv}
use Rattle.machine.specs.Machine.{arg, spoilt, spoilt_new, choose, answer_to}
use Rattle.machine.specs.Numbers.{objects, edition_of, record_bytes, most_holds, most_aside, outside, no_slot}
use Rattle.machine.specs.Reply.{FORM, no, Areas, Answer, answer, lowest, unless, unless_fault, reply_of, bytes}
use Rattle.machine.specs.State.{State, slot_of, side_of, started, room, subscribed, holds_on, is_open}
use Rattle.machine.specs.Steps
use Rattle.story.specs.Table
use Rattle.story.specs.Table.{FLAG, table_of, some_object, dry}
use Rattle.story.proofs.Dispatch.{ByRecord, by_number}

-- ## Tests by a command's way and by the table's
or_false : (b : Bool) → (b || false) ≡ b
or_false true = refl
or_false false = refl

cond_or : (a b : Bool) (x y : ℕ) → cond (a || b) x y ≡ cond a x (cond b x y)
cond_or true b x y = refl
cond_or false b x y = refl

and_and : (a b c : Bool) → ((a && b) && c) ≡ (a && (b && c))
and_and true b c = refl
and_and false b c = refl

-- an object that uses the slot; a full receiver
used-is : (s : State) (q n : ℕ) → slot_used s q n ≡ some_object (λ x. started s x && eqb (slot_of s x) q) n
unfolding slot_used some_object
used-is s q zero = refl
used-is s q (suc n) = go (started s (suc n) && eqb (slot_of s (suc n)) q) (used-is s q n)
  where
    go : (b : Bool) {x y : Bool} → x ≡ y → cond b true x ≡ (b || y)
    go true e = refl
    go false e = e

full_is : (s : State) (g n : ℕ) → full_receiver s g n ≡ some_object (λ x. subscribed s x g && eqb (room s x) 0) n
unfolding full_receiver some_object
full_is s g zero = refl
full_is s g (suc n) = go (subscribed s (suc n) g) (eqb (room s (suc n)) 0) (full_is s g n)
  where
    go : (b c : Bool) {x y : Bool} → x ≡ y → (cond b c false || x) ≡ (b && c || y)
    go true c e = ap (λ t. c || t) e
    go false c e = e

-- no free block in a pool
lowest-is : (cells : List Cell) (pool : Span) → First (λ b. is_free (at cells b)) pool.from (pool.to - pool.from) (lowest_free cells pool)
unfolding lowest_free
lowest-is cells pool = first_is (λ b. is_free (at cells b)) pool.from (pool.to - pool.from)

none_is : (cells : List Cell) (pool : Span) → none_found (found_in cells pool) ≡ every (λ b. not (is_free (at cells b))) pool.from pool.to
unfolding none_found found_in
none_is cells pool = go (ltb (lowest_free cells pool) pool.to) refl
  where
    f : First (λ b. is_free (at cells b)) pool.from (pool.to - pool.from) (lowest_free cells pool)
    f = lowest-is cells pool

    some : (t : Bool) → every (λ b. not (is_free (at cells b))) pool.from pool.to ≡ t → lowest_free cells pool < pool.to → false ≡ t
    some true e l =
        let n : is_free (at cells (lowest_free cells pool)) ≡ false = not-true _ (every-at (λ b. not (is_free (at cells b))) pool.from pool.to (lowest_free cells pool) e f.low l) in
        no_yes (sym n ∙ f.passes (omega (arith, f.low)))
    some false e l = refl

    go : (t : Bool) → ltb (lowest_free cells pool) pool.to ≡ t →
        none_found (cond t (Some (lowest_free cells pool)) None) ≡ every (λ b. not (is_free (at cells b))) pool.from pool.to
    go true e = some _ refl (ltb-true _ _ e)
    go false e =
        let l = ltb-false (lowest_free cells pool) pool.to e in
        sym (every_all (λ b. not (is_free (at cells b))) pool.from pool.to (λ k a b. ap not (f.least k a (omega arith))))

-- NEW's unused bytes
spoilt-new : (n : ℕ) (r : List ℕ) → spoilt_new n r ≡ (not (blank r 3 8) || not (ltb 64 n) && not (blank r (8 + n) record_bytes))
unfolding spoilt_new outside blank every_from
spoilt-new n r = rw (le-ltb n 0 (omega arith)) (ap (λ t. not (blank r 3 8) || t) (go (ltb 64 n)))
  where
    go : (t : Bool) → not (blank r (cond t record_bytes (8 + n)) record_bytes) ≡ (not t && not (blank r (8 + n) record_bytes))
    go true = refl
    go false = refl

-- numbers: at most 0, and 15 where it is the most
none_left : (n : ℕ) → leb n 0 ≡ eqb n 0
none_left zero = refl
none_left (suc n) = lt-leb (suc n) 0 (omega arith) ∙ sym (ne_eqb (suc n) 0 (λ e. omega arith))

at_most : (n m : ℕ) → n ≤ m → leb m n ≡ eqb n m
at_most n m l = go (eqb n m) refl
  where
    go : (t : Bool) → eqb n m ≡ t → leb m n ≡ t
    go true e = let q = eqb-true n m e in le-leb m n (omega arith)
    go false e = let q = eqb-false n m e in lt-leb m n (omega arith)

-- nothing queued
pub idle_is : (bs : List (List ℕ)) → eqb (highest bs) 0 ≡ eqb (queued bs) 0
idle_is bs = go (eqb (highest bs) 0) refl
  where
    go : (t : Bool) → eqb (highest bs) 0 ≡ t → t ≡ eqb (queued bs) 0
    go true e = sym (eq-eqb (queued bs) 0 (highest_none bs (eqb-true (highest bs) 0 e)))
    go false e =
        let ne = eqb-false (highest bs) 0 e in
        let m = (highest-is bs (length bs)).has_mail (omega arith) in
        sym (ne_eqb (queued bs) 0 (λ q. omega (arith, queued_took bs (highest bs - 1) m)))

-- ## The number of an answer
abbrev pub number_of : Answer → ℕ
number_of a = get_or a.reply 0 0

module _ (s : State) (z : Areas) where
  pub unless-number : (n : ℕ) (a : Answer) → number_of a ≡ 0 → number_of (unless n s z a) ≡ n
  unfolding unless reply_of bytes
  unless-number zero a h = h
  unless-number (suc n) a h = refl

  fault_number : (c : ℕ) (a : Answer) → number_of a ≡ 0 → number_of (unless_fault c s z a) ≡ cond (not (eqb c 0)) 14 0
  unfolding unless_fault reply_of bytes
  fault_number zero a h = h
  fault_number (suc c) a h = rw (eqb-suc-zero c) refl

  -- LOAD's two kinds of tests, one after the other
  load-number : (t u v w x y : Bool) (a : Answer) (n : ℕ) → number_of a ≡ n →
      number_of (unless (cond t 1 (cond u 2 (cond v 2 (cond w 3 (cond x 4 (cond y 9 0)))))) s z a)
      ≡ cond t 1 (cond u 2 (cond v 2 (cond w 3 (cond x 4 (cond y 9 n)))))
  unfolding unless reply_of bytes
  load-number true u v w x y a n e = refl
  load-number false true v w x y a n e = refl
  load-number false false true w x y a n e = refl
  load-number false false false true x y a n e = refl
  load-number false false false false true y a n e = refl
  load-number false false false false false true a n e = refl
  load-number false false false false false false a n e = e

  new_done : (f : Option ℕ) (g n : ℕ) (payload : List ℕ) → number_of (new_in f g n payload s z) ≡ 0
  unfolding new_in reply_of bytes
  new_done (Some b) g n payload = refl
  new_done None g n payload = refl

  recall_done_lem : (n q p : ℕ) → number_of (recall_done n q p s z) ≡ 0
  unfolding recall_done reply_of bytes
  recall_done_lem zero q p = refl
  recall_done_lem (suc n) q p = refl

  publish_done_lem : (n b : ℕ) → number_of (publish_done n b s z) ≡ 0
  unfolding publish_done reply_of bytes
  publish_done_lem zero b = refl
  publish_done_lem (suc n) b = refl

-- ## Of each command
module _ (s : State) (r d : List ℕ) (z : Areas) (long : eqb (length r) record_bytes ≡ true) (i : Inv s) where
  abbrev Tabled : Answer → Type 0
  Tabled a = number_of a ≡ lowest (table_of (arg r 0) s r d z)

  unknown_number : outside 1 FLAG (arg r 0) ≡ true → Tabled (answer s (no FORM) z)
  unfolding lowest table_of reply_of bytes
  unknown_number e = rw (long, e) refl

  each : ByRecord Tabled r d s z
  unfolding Charts.load Charts.load_tests Charts.start Charts.start_tests Charts.flag Charts.flag_tests Clocks.arm Clocks.arm_tests Clocks.disarm Clocks.disarm_tests Clocks.tick Clocks.tick_done
      Events.new Events.new_tests Events.post Events.post_tests Events.post_front Events.post_front_tests Events.publish Events.publish_tests
      Events.subscribe Events.unsubscribe Events.subscribe_tests Events.hold Events.hold_tests Events.release Events.release_tests Events.drop_event Events.drop_tests
      Events.read Events.read_tests Steps.next Steps.next_tests Steps.step_tests Steps.next_says Steps.end Steps.end_tests Steps.drain Steps.drain_tests Steps.drain_done
      Aside.defer Aside.defer_tests Aside.recall Aside.recall_tests Aside.flush Aside.flush_tests
      reply_of bytes spoilt lowest table_of dry
      Table.arguments Table.line Table.some_outside Table.is_outside Table.object_in Table.is_object Table.one_of Table.unused_byte Table.uses_guarded Table.other_length Table.unsound Table.slot_in_use Table.full_subscriber Table.full_side Table.no_place outside
  each = record {
    load = λ e.
        let q = arg r 1 in
        rw e (load-number s z (spoilt 1 r) (tables_bad z.tables) (slot_bad q z.tables) (no_slot q) (is_open s.hand) (slot_used s q objects) _ _ (fault_number s z (class_of (edition_of q) d) _ refl)
        ∙ simp (long, or_false, cond_or, used-is));
    start = λ e. rw e (unless-number s z _ _ refl ∙ simp (long, or_false, cond_or));
    new = λ e. rw e (unless-number s z _ _ (new_done s z _ _ _ _) ∙ simp (long, or_false, cond_or, spoilt-new, none_is));
    post = λ e. rw e (unless-number s z _ _ refl ∙ simp (long, or_false, cond_or));
    post_front = λ e. rw e (unless-number s z _ _ refl ∙ simp (long, or_false, cond_or, none_left));
    publish = λ e. rw e (unless-number s z _ _ (publish_done_lem s z _ _) ∙ simp (long, or_false, cond_or, full_is));
    subscribe = λ e. rw e (unless-number s z _ _ refl ∙ simp (long, or_false, cond_or));
    unsubscribe = λ e. rw e (unless-number s z _ _ refl ∙ simp (long, or_false, cond_or));
    hold = λ e. rw e (unless-number s z _ _ refl ∙ rw (at_most (holds_on s (arg r 1)) most_holds (i.store.held (arg r 1))) (simp (long, or_false, cond_or)));
    release = λ e. rw e (unless-number s z _ _ refl ∙ simp (long, or_false, cond_or));
    drop_event = λ e. rw e (unless-number s z _ _ refl ∙ simp (long, or_false, cond_or));
    next = λ e. rw e (unless-number s z _ _ refl ∙ rw (idle_is s.boxes) (simp (long, or_false, cond_or, and_and)));
    end = λ e. rw e (unless-number s z _ _ refl ∙ simp (long, cond_or));
    arm = λ e. rw e (unless-number s z _ _ refl ∙ simp (long, or_false, cond_or));
    disarm = λ e. rw e (unless-number s z _ _ refl ∙ simp (long, or_false, cond_or));
    tick = λ e. rw e (unless-number s z _ _ refl ∙ simp (long, cond_or));
    read = λ e. rw e (unless-number s z _ _ refl ∙ simp (long, or_false, cond_or));
    drain = λ e. rw e (unless-number s z _ _ refl ∙ simp (long, cond_or));
    defer = λ e. rw e (unless-number s z _ _ refl ∙ rw (at_most (length (side_of s (arg r 1))) most_aside (i.aside.room (arg r 1))) (simp (long, or_false, cond_or)));
    recall = λ e. rw e (unless-number s z _ _ (recall_done_lem s z _ _ _) ∙ simp (long, or_false, cond_or));
    flush = λ e. rw e (unless-number s z _ _ refl ∙ simp (long, or_false, cond_or));
    flag = λ e. rw e (unless-number s z _ _ refl ∙ simp (long, or_false, cond_or));
  }

  whole_number : number_of (answer_to s r d z) ≡ lowest (table_of (arg r 0) s r d z)
  unfolding answer_to choose
  whole_number = rw long (by_number Tabled r d s z each unknown_number)

short_number : (s : State) (r d : List ℕ) (z : Areas) → eqb (length r) record_bytes ≡ false → number_of (answer_to s r d z) ≡ lowest (table_of (arg r 0) s r d z)
unfolding answer_to choose lowest table_of reply_of bytes
short_number s r d z e = rw e refl

pub number_is : (s : State) (r d : List ℕ) (z : Areas) → Inv s → number_of (answer_to s r d z) ≡ lowest (table_of (arg r 0) s r d z)
number_is s r d z i = go (eqb (length r) record_bytes) refl
  where
    go : (t : Bool) → eqb (length r) record_bytes ≡ t → number_of (answer_to s r d z) ≡ lowest (table_of (arg r 0) s r d z)
    go true e = whole_number s r d z e i
    go false e = short_number s r d z e
