-- What only some commands change: LOAD the loaded slots and the tables, START the depths and slots of objects, START, NEXT and DRAIN the
-- states of rest, START and FLAG the flags, NEW the sizes of events, the marks and the payloads, DRAIN the log, DEFER, RECALL and FLUSH the
-- side queues.
use mathlib.Core.List.{List, [], ◌∷◌}
use mathlib.Core.Logic.{◌⊎◌, inl, inr, ⊎_elim}
use mathlib.Core.Path.{◌≡◌, refl, ap, ◌∙◌}
use Prim.Native.Nat.{ℕ, zero, suc, ◌+◌}
use lib.Dec.{eqb, ltb}
use lib.ListN.{get_or}
use Rattle.std.proofs.Common.{Option, Some, None}
use Rattle.ground.specs.Bools.{cond_pick}
use Rattle.chart.specs.Chart.{class_of}
use Rattle.mail.specs.Entry.{hand_of}
use Rattle.mail.specs.declared.Hand.{Hand}
use Rattle.mail.specs.declared.Hand.TheVariants.{Nothing, Block, Timer}
use Rattle.machine.proofs.Tests.{unless_pick, fault_pick}
use Rattle.machine.specs.Aside.{set_aside, defer, recalled, recall_done, recall, let_go_each, flushed, flush}
use Rattle.machine.specs.Charts.{load, start, started_at, flag_set, flag}
use Rattle.machine.specs.Clocks.{arm, armed_with, disarm, with_counter, Ticked, ticked, fire, tick_timer, tick_from, tick_done, tick}
use Rattle.machine.specs.Events.{new_event, new_in, new, posted, post, posted_front, post_front, published, publish_done, publish, wanting, subscribe, unsubscribe, held, hold, released, release, drop_event, read}
use Rattle.machine.specs.Machine.{arg, answer_to}
use Rattle.machine.specs.Numbers.{objects, timers, edition_of}
use Rattle.machine.specs.Reply.{Areas, Answer, BothTables, answer, done, lowest, unless}
use Rattle.machine.specs.State.{State, signal_in, side_of, subscribed, counter_of, room}
use Rattle.machine.specs.Steps.{step_tests, stepped, next, let_go_hand, ended, end, Drained, logged, drain_from, drain_done, drain}
use Rattle.story.proofs.Dispatch.{ByRecord, by_record}

pub record Frame (n : ℕ) (s : State) (z : Areas) (a : Answer) : Type 0 where
  pub loaded : (n ≡ 1 → ⊥) → a.state.loaded ≡ s.loaded
  pub tables : (n ≡ 1 → ⊥) → a.areas.tables ≡ z.tables
  pub depths : (n ≡ 2 → ⊥) → a.state.objects.depths ≡ s.objects.depths
  pub seats : (n ≡ 2 → ⊥) → a.state.objects.seats ≡ s.objects.seats
  pub rests : (n ≡ 2 → ⊥) → (n ≡ 12 → ⊥) → (n ≡ 18 → ⊥) → a.state.objects.rests ≡ s.objects.rests
  pub sizes : (n ≡ 3 → ⊥) → a.state.events.sizes ≡ s.events.sizes
  pub marks : (n ≡ 3 → ⊥) → a.state.marks ≡ s.marks
  pub payloads : (n ≡ 3 → ⊥) → a.areas.payloads ≡ z.payloads
  pub log : (n ≡ 18 → ⊥) → a.areas.log ≡ z.log
  pub sides : (n ≡ 19 → ⊥) → (n ≡ 20 → ⊥) → (n ≡ 21 → ⊥) → a.state.sides ≡ s.sides
  pub flags : (n ≡ 2 → ⊥) → (n ≡ 22 → ⊥) → a.state.flags ≡ s.flags

-- The parts of the state that this speaks of are the same in t; all but the states of rest are.
pub record Same (s t : State) : Type 0 where
  pub loaded : t.loaded ≡ s.loaded
  pub objects : t.objects ≡ s.objects
  pub sizes : t.events.sizes ≡ s.events.sizes
  pub marks : t.marks ≡ s.marks
  pub sides : t.sides ≡ s.sides
  pub flags : t.flags ≡ s.flags

pub record SameSeats (s t : State) : Type 0 where
  pub loaded : t.loaded ≡ s.loaded
  pub depths : t.objects.depths ≡ s.objects.depths
  pub seats : t.objects.seats ≡ s.objects.seats
  pub sizes : t.events.sizes ≡ s.events.sizes
  pub marks : t.marks ≡ s.marks
  pub sides : t.sides ≡ s.sides
  pub flags : t.flags ≡ s.flags

same_by : (s t : State) → t.loaded ≡ s.loaded → t.objects ≡ s.objects → t.events.sizes ≡ s.events.sizes → t.marks ≡ s.marks → t.sides ≡ s.sides →
    t.flags ≡ s.flags → Same s t
same_by s t e f g m h u = record { loaded = e; objects = f; sizes = g; marks = m; sides = h; flags = u }

same_then : {s t u : State} → Same s t → Same t u → Same s u
same_then e f = record {
  loaded = f.loaded ∙ e.loaded;
  objects = f.objects ∙ e.objects;
  sizes = f.sizes ∙ e.sizes;
  marks = f.marks ∙ e.marks;
  sides = f.sides ∙ e.sides;
  flags = f.flags ∙ e.flags;
}

seats_then : {s t u : State} → SameSeats s t → SameSeats t u → SameSeats s u
seats_then e f = record {
  loaded = f.loaded ∙ e.loaded;
  depths = f.depths ∙ e.depths;
  seats = f.seats ∙ e.seats;
  sizes = f.sizes ∙ e.sizes;
  marks = f.marks ∙ e.marks;
  sides = f.sides ∙ e.sides;
  flags = f.flags ∙ e.flags;
}

posted_same : (s : State) (b p : ℕ) → Same s (posted s b p)
unfolding posted
posted_same s b p = same_by _ _ refl refl refl refl refl refl

published_same : (g b n : ℕ) (s : State) → Same s (published s g b n)
unfolding published
published_same g b zero s = same_by _ _ refl refl refl refl refl refl
published_same g b (suc n) s =
    cond_pick (λ t. Same s (published t g b n)) (subscribed s (suc n) g) (posted s b (suc n)) s
    (λ w. same_then (posted_same s b (suc n)) (published_same g b n (posted s b (suc n))))
    (λ w. published_same g b n s)

timer_same : (t : ℕ) (x : Ticked) → Same x.state (tick_timer t x).state
unfolding tick_timer fire with_counter
timer_same t x =
    cond_pick Kept (eqb (counter_of x.state t) 0) _ _ (λ e. same_by _ _ refl refl refl refl refl refl) (λ e.
    cond_pick Kept (ltb 1 (counter_of x.state t)) _ _ (λ f. same_by _ _ refl refl refl refl refl refl) (λ f.
    cond_pick Kept (ltb 0 (room x.state (get_or x.state.timers.owners t 0))) _ _ (λ g. same_by _ _ refl refl refl refl refl refl) (λ g. same_by _ _ refl refl refl refl refl refl)))
  where
    Kept : Ticked → Type 0
    Kept y = Same x.state y.state

ticked_same : (k t : ℕ) (x : Ticked) → Same x.state (tick_from k t x).state
unfolding tick_from
ticked_same zero t x = same_by _ _ refl refl refl refl refl refl
ticked_same (suc k) t x = same_then (timer_same t x) (ticked_same k (t + 1) (tick_timer t x))

let_go_same : (h : Hand) (s : State) → Same s (let_go_hand h s)
unfolding let_go_hand
let_go_same Nothing s = same_by _ _ refl refl refl refl refl refl
let_go_same (Block b) s = same_by _ _ refl refl refl refl refl refl
let_go_same (Timer t g) s = same_by _ _ refl refl refl refl refl refl

gone_same : (l : List ℕ) (s : State) → Same s (let_go_each l s)
unfolding let_go_each
gone_same [] s = same_by _ _ refl refl refl refl refl refl
gone_same (e ∷ l) s = same_then (let_go_same (hand_of e) s) (gone_same l (let_go_hand (hand_of e) s))

pub ended_same : (s : State) → Same s (ended s)
unfolding ended
ended_same s = let e = let_go_same s.hand s in same_by _ _ e.loaded e.objects e.sizes e.marks e.sides e.flags

pub step_seats : (s : State) (tables : BothTables) → SameSeats s (ended (stepped s tables))
unfolding stepped
step_seats s tables =
    let e = ended_same (stepped s tables) in
    record {
      loaded = e.loaded;
      depths = ap (λ o. o.depths) e.objects;
      seats = ap (λ o. o.seats) e.objects;
      sizes = e.sizes;
      marks = e.marks;
      sides = e.sides;
      flags = e.flags;
    }

seats_same : (s : State) → SameSeats s s
seats_same s = record { loaded = refl; depths = refl; seats = refl; sizes = refl; marks = refl; sides = refl; flags = refl }

drained_seats : (k n : ℕ) (s : State) (tables : BothTables) (log : List ℕ) → SameSeats s (drain_from k n s tables log).state
unfolding drain_from
drained_seats zero n s tables log = seats_same s
drained_seats (suc k) n s tables log =
    cond_pick (λ (x : Drained). SameSeats s x.state) (eqb (lowest (step_tests s tables)) 0) _ _
    (λ t. seats_then (step_seats s tables) (drained_seats k (n + 1) (ended (stepped s tables)) tables (logged s tables n log)))
    (λ t. seats_same s)

-- ## Of each command
module _ (s : State) (r d : List ℕ) (z : Areas) where
  abbrev Framed : Answer → Type 0
  Framed a = Frame (arg r 0) s z a

  frame : (a : Answer) → Same s a.state → a.areas ≡ z → Framed a
  frame a e f = record {
    loaded = λ n. e.loaded;
    tables = λ n. ap (λ y. y.tables) f;
    depths = λ n. ap (λ o. o.depths) e.objects;
    seats = λ n. ap (λ o. o.seats) e.objects;
    rests = λ n m l. ap (λ o. o.rests) e.objects;
    sizes = λ n. e.sizes;
    marks = λ n. e.marks;
    payloads = λ n. ap (λ y. y.payloads) f;
    log = λ n. ap (λ y. y.log) f;
    sides = λ n m l. e.sides;
    flags = λ n m. e.flags;
  }

  unchanged : (a : Answer) → a.state.loaded ≡ s.loaded → a.state.objects ≡ s.objects → a.state.events.sizes ≡ s.events.sizes →
      a.state.marks ≡ s.marks → a.state.sides ≡ s.sides → a.state.flags ≡ s.flags → a.areas ≡ z → Framed a
  unchanged a e f g m h u i = frame a (same_by _ _ e f g m h u) i

  unless_framed : (n : ℕ) (a : Answer) → Framed a → Framed (unless n s z a)
  unless_framed n a h = unless_pick s z a Framed n (λ j e. unchanged _ refl refl refl refl refl refl refl) (λ e. h)

  new_framed : arg r 0 ≡ 3 → (f : Option ℕ) (g n : ℕ) (payload : List ℕ) → Framed (new_in f g n payload s z)
  unfolding new_in new_event
  new_framed e (Some b) g n payload = record {
    loaded = λ n. refl;
    tables = λ n. refl;
    depths = λ n. refl;
    seats = λ n. refl;
    rests = λ n m l. refl;
    sizes = λ n. absurd (n e);
    marks = λ n. absurd (n e);
    payloads = λ n. absurd (n e);
    log = λ n. refl;
    sides = λ n m l. refl;
    flags = λ n m. refl;
  }
  new_framed e None g n payload = unchanged _ refl refl refl refl refl refl refl

  publish_framed : (n b : ℕ) → Framed (publish_done n b s z)
  unfolding publish_done
  publish_framed zero b = unchanged _ refl refl refl refl refl refl refl
  publish_framed (suc n) b = frame _ (published_same (signal_in s b) b objects s) refl

  -- DEFER, RECALL, FLUSH
  abbrev OnSides : Type 0
  OnSides = (arg r 0 ≡ 19) ⊎ ((arg r 0 ≡ 20) ⊎ (arg r 0 ≡ 21))

  aside : (a : Answer) → OnSides → a.state.loaded ≡ s.loaded → a.state.objects ≡ s.objects → a.state.events.sizes ≡ s.events.sizes →
      a.state.marks ≡ s.marks → a.state.flags ≡ s.flags → a.areas ≡ z → Framed a
  aside a on e f g m u h = record {
    loaded = λ n. e;
    tables = λ n. ap (λ y. y.tables) h;
    depths = λ n. ap (λ o. o.depths) f;
    seats = λ n. ap (λ o. o.seats) f;
    rests = λ n m l. ap (λ o. o.rests) f;
    sizes = λ n. g;
    marks = λ n. m;
    payloads = λ n. ap (λ y. y.payloads) h;
    log = λ n. ap (λ y. y.log) h;
    sides = λ n m l. ⊎_elim (λ e. absurd (n e)) (λ e. ⊎_elim (λ e. absurd (m e)) (λ e. absurd (l e)) e) on;
    flags = λ n m. u;
  }

  defer_framed : arg r 0 ≡ 19 → (h : Hand) (q v : ℕ) → Framed (answer (set_aside h q s) (done v 0) z)
  unfolding set_aside
  defer_framed e Nothing q v = aside _ (inl e) refl refl refl refl refl refl
  defer_framed e (Block b) q v = aside _ (inl e) refl refl refl refl refl refl
  defer_framed e (Timer t g) q v = aside _ (inl e) refl refl refl refl refl refl

  recall_framed : arg r 0 ≡ 20 → (n q p : ℕ) → Framed (recall_done n q p s z)
  unfolding recall_done recalled
  recall_framed e zero q p = aside _ (inr (inl e)) refl refl refl refl refl refl
  recall_framed e (suc n) q p = aside _ (inr (inl e)) refl refl refl refl refl refl

  flush_framed : arg r 0 ≡ 21 → (q v : ℕ) → Framed (answer (flushed s q) (done v 0) z)
  unfolding flushed
  flush_framed e q v = let g = gone_same (side_of s q) s in aside _ (inr (inr e)) g.loaded g.objects g.sizes g.marks g.flags refl

  each : ByRecord Framed r d s z
  unfolding load start started_at arm armed_with disarm with_counter tick tick_done new post posted post_front posted_front publish subscribe unsubscribe wanting hold held
      release released drop_event read next stepped end drain drain_done defer recall flush flag flag_set
  each = record {
    load = λ e. unless_framed _ _ (fault_pick s z _ Framed (class_of (edition_of (arg r 1)) d) (λ j e. unchanged _ refl refl refl refl refl refl refl) (λ u. record {
      loaded = λ n. absurd (n e);
      tables = λ n. absurd (n e);
      depths = λ n. refl;
      seats = λ n. refl;
      rests = λ n m l. refl;
      sizes = λ n. refl;
      marks = λ n. refl;
      payloads = λ n. refl;
      log = λ n. refl;
      sides = λ n m l. refl;
      flags = λ n m. refl;
    }));
    start = λ e. unless_framed _ _ (record {
      loaded = λ n. refl;
      tables = λ n. refl;
      depths = λ n. absurd (n e);
      seats = λ n. absurd (n e);
      rests = λ n m l. absurd (n e);
      sizes = λ n. refl;
      marks = λ n. refl;
      payloads = λ n. refl;
      log = λ n. refl;
      sides = λ n m l. refl;
      flags = λ n m. absurd (n e);
    });
    new = λ e. unless_framed _ _ (new_framed e _ _ _ _);
    post = λ e. unless_framed _ _ (unchanged _ refl refl refl refl refl refl refl);
    post_front = λ e. unless_framed _ _ (unchanged _ refl refl refl refl refl refl refl);
    publish = λ e. unless_framed _ _ (publish_framed _ _);
    subscribe = λ e. unless_framed _ _ (unchanged _ refl refl refl refl refl refl refl);
    unsubscribe = λ e. unless_framed _ _ (unchanged _ refl refl refl refl refl refl refl);
    hold = λ e. unless_framed _ _ (unchanged _ refl refl refl refl refl refl refl);
    release = λ e. unless_framed _ _ (unchanged _ refl refl refl refl refl refl refl);
    drop_event = λ e. unless_framed _ _ (unchanged _ refl refl refl refl refl refl refl);
    next = λ e. unless_framed _ _ (record {
      loaded = λ n. refl;
      tables = λ n. refl;
      depths = λ n. refl;
      seats = λ n. refl;
      rests = λ n m l. absurd (m e);
      sizes = λ n. refl;
      marks = λ n. refl;
      payloads = λ n. refl;
      log = λ n. refl;
      sides = λ n m l. refl;
      flags = λ n m. refl;
    });
    end = λ e. unless_framed _ _ (frame _ (ended_same s) refl);
    arm = λ e. unless_framed _ _ (unchanged _ refl refl refl refl refl refl refl);
    disarm = λ e. unless_framed _ _ (unchanged _ refl refl refl refl refl refl refl);
    tick = λ e. unless_framed _ _ (frame _ (ticked_same timers 0 (ticked s 0 0)) refl);
    read = λ e. unless_framed _ _ (unchanged _ refl refl refl refl refl refl refl);
    drain = λ e. unless_framed _ _ (let x = drained_seats (arg r 1) 0 s z.tables z.log in record {
      loaded = λ n. x.loaded;
      tables = λ n. refl;
      depths = λ n. x.depths;
      seats = λ n. x.seats;
      rests = λ n m l. absurd (l e);
      sizes = λ n. x.sizes;
      marks = λ n. x.marks;
      payloads = λ n. refl;
      log = λ n. absurd (n e);
      sides = λ n m l. x.sides;
      flags = λ n m. x.flags;
    });
    defer = λ e. unless_framed _ _ (defer_framed e _ _ _);
    recall = λ e. unless_framed _ _ (recall_framed e _ _ _);
    flush = λ e. unless_framed _ _ (flush_framed e _ _);
    flag = λ e. unless_framed _ _ (record {
      loaded = λ n. refl;
      tables = λ n. refl;
      depths = λ n. refl;
      seats = λ n. refl;
      rests = λ n m l. refl;
      sizes = λ n. refl;
      marks = λ n. refl;
      payloads = λ n. refl;
      log = λ n. refl;
      sides = λ n m l. refl;
      flags = λ n m. absurd (m e);
    });
  }

  pub framed : Frame (arg r 0) s z (answer_to s r d z)
  framed = by_record Framed r d s z each (unchanged _ refl refl refl refl refl refl refl)
