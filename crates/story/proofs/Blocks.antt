-- What each command may make of each block.
use mathlib.Core.List.{List, [], ◌∷◌}
use mathlib.Core.Logic.{◌⊎◌, inl, inr}
use mathlib.Core.Path.{◌≡◌, refl, sym, ◌∙◌}
use Prim.Native.Nat.{ℕ, zero, suc, ◌+◌}
use lib.Dec.{eqb, ltb}
use lib.ListN.{get_or}
use Rattle.std.proofs.Common.{Option, Some, None}
use Rattle.ground.specs.Bools.{cond_pick}
use Rattle.chart.specs.Chart.{class_of}
use Rattle.mail.specs.Entry.{hand_of}
use Rattle.mail.specs.declared.Hand.{Hand}
use Rattle.mail.specs.declared.Hand.TheVariants.{Nothing, Block, Timer}
use Rattle.pool.specs.Cell.{Cell, handed_out, more, fewer, dropped}
use Rattle.pool.specs.Laws.{found-lowest}
use Rattle.pool.specs.Row.{at, changed, found, pool_for}
use Rattle.machine.proofs.Tests.{unless_pick, fault_pick}
use Rattle.machine.specs.Aside.{set_aside, defer, recalled, recall_done, recall, let_go_each, flushed, flush}
use Rattle.machine.specs.Charts.{load, start, started_at, flag_set, flag}
use Rattle.machine.specs.Clocks.{arm, armed_with, disarm, with_counter, Ticked, ticked, fire, tick_timer, tick_from, tick_done, tick}
use Rattle.machine.specs.Events.{new_event, new_in, new, posted, post, posted_front, post_front, receivers, published, publish_done, publish, wanting, subscribe, unsubscribe, held, hold, released, release, drop_event, read}
use Rattle.machine.specs.Machine.{arg, answer_to}
use Rattle.machine.specs.Numbers.{objects, timers, edition_of}
use Rattle.machine.specs.Reply.{Areas, Answer, BothTables, answer, done, lowest, reply_of, bytes, unless}
use Rattle.machine.specs.State.{State, signal_in, subscribed, counter_of, room}
use Rattle.machine.specs.Steps.{step_tests, stepped, next, let_go_hand, ended, end, Drained, logged, drain_from, drain_done, drain}
use Rattle.story.proofs.Cells.{Moves, Grown, Fallen, grown_same, fallen_same, grown_more, fallen_fewer, moves_grown, moves_fallen, moves_same, moves_dropped, moves_handed, changed-each}
use Rattle.story.proofs.Dispatch.{ByRecord, by_record}
use Rattle.story.proofs.Handles.{said_event, new_ends}

-- Blocks that gain references, or lose them, one after the other.
posted_grown : (s : State) (b p : ℕ) (c : Cell) (k : ℕ) → Grown c (at s.cells k) → Grown c (at (posted s b p).cells k)
unfolding posted
posted_grown s b p c k h = changed-each (Grown c) more s.cells b k h (λ e. grown_more c (at s.cells k) h)

published_grown : (g b : ℕ) (c : Cell) (k n : ℕ) (s : State) → Grown c (at s.cells k) → Grown c (at (published s g b n).cells k)
unfolding published
published_grown g b c k zero s h = h
published_grown g b c k (suc n) s h =
    cond_pick (λ t. Grown c (at (published t g b n).cells k)) (subscribed s (suc n) g) (posted s b (suc n)) s
    (λ w. published_grown g b c k n (posted s b (suc n)) (posted_grown s b (suc n) c k h))
    (λ w. published_grown g b c k n s h)

module _ (c : Cell) (k : ℕ) where
  let_go_fallen : (h : Hand) (s : State) → Fallen c (at s.cells k) → Fallen c (at (let_go_hand h s).cells k)
  unfolding let_go_hand
  let_go_fallen Nothing s f = f
  let_go_fallen (Block b) s f = changed-each (Fallen c) fewer s.cells b k f (λ e. fallen_fewer c (at s.cells k) f)
  let_go_fallen (Timer t g) s f = f

  gone_fallen : (l : List ℕ) (s : State) → Fallen c (at s.cells k) → Fallen c (at (let_go_each l s).cells k)
  unfolding let_go_each
  gone_fallen [] s f = f
  gone_fallen (e ∷ l) s f = gone_fallen l (let_go_hand (hand_of e) s) (let_go_fallen (hand_of e) s f)

  ended_fallen : (s : State) → Fallen c (at s.cells k) → Fallen c (at (ended s).cells k)
  unfolding ended
  ended_fallen s f = let_go_fallen s.hand s f

  stepped_fallen : (s : State) (tables : BothTables) → Fallen c (at s.cells k) → Fallen c (at (stepped s tables).cells k)
  unfolding stepped
  stepped_fallen s tables f = f

  drained_fallen : (m n : ℕ) (s : State) (tables : BothTables) (log : List ℕ) → Fallen c (at s.cells k) → Fallen c (at (drain_from m n s tables log).state.cells k)
  unfolding drain_from
  drained_fallen zero n s tables log f = f
  drained_fallen (suc m) n s tables log f =
      cond_pick (λ (x : Drained). Fallen c (at x.state.cells k)) (eqb (lowest (step_tests s tables)) 0) _ _
      (λ t. drained_fallen m (n + 1) (ended (stepped s tables)) tables (logged s tables n log) (ended_fallen (stepped s tables) (stepped_fallen s tables f)))
      (λ t. f)

-- TICK leaves the blocks alone.
ticked-cells : (k t : ℕ) (x : Ticked) → (tick_from k t x).state.cells ≡ x.state.cells
unfolding tick_from tick_timer fire with_counter
ticked-cells zero t x = refl
ticked-cells (suc k) t x = ticked-cells k (t + 1) (tick_timer t x) ∙ timer
  where
    Same : Ticked → Type 0
    Same y = y.state.cells ≡ x.state.cells

    timer : Same (tick_timer t x)
    timer =
        cond_pick Same (eqb (counter_of x.state t) 0) _ _ (λ e. refl) (λ e.
        cond_pick Same (ltb 1 (counter_of x.state t)) _ _ (λ f. refl) (λ f.
        cond_pick Same (ltb 0 (room x.state (get_or x.state.timers.owners t 0))) _ _ (λ g. refl) (λ g. refl)))

-- ## Of each command
module _ (s : State) (r : List ℕ) where
  -- the record is command n, and is done
  abbrev pub Does : ℕ → Answer → Type 0
  Does n a = (arg r 0 ≡ n) × (get_or a.reply 0 0 ≡ 0)

  -- it hands out block k; it lets go of block k while new
  abbrev pub Hands : Answer → ℕ → Type 0
  Hands a k = Does 3 a × (said_event a.reply ≡ k)

  abbrev pub Goes : Answer → ℕ → Type 0
  Goes a k = (arg r 1 ≡ k) × (Does 11 a ⊎ (Does 6 a × (receivers s (signal_in s k) objects ≡ 0)))

  pub record Moved (a : Answer) : Type 0 where
    pub block : (k : ℕ) → Moves (Hands a k) (Goes a k) (at s.cells k) (at a.state.cells k)

module _ (s : State) (r d : List ℕ) (z : Areas) where
  same : (a : Answer) → a.state.cells ≡ s.cells → Moved s r a
  same a e = record { block = λ k. rw e (moves_same (Hands s r a k) (Goes s r a k) (at s.cells k)) }

  unless-moved : (n : ℕ) (a : Answer) → Moved s r a → Moved s r (unless n s z a)
  unless-moved n a h = unless_pick s z a (Moved s r) n (λ j e. same _ refl) (λ e. h)

  falls : (a : Answer) → ((k : ℕ) → Fallen (at s.cells k) (at a.state.cells k)) → Moved s r a
  falls a f = record { block = λ k. moves_fallen (Hands s r a k) (Goes s r a k) _ _ (f k) }

  changes : (a : Answer) (f : Cell → Cell) (b : ℕ) → a.state.cells ≡ changed f s.cells b →
      ((k : ℕ) → k ≡ b → Moves (Hands s r a k) (Goes s r a k) (at s.cells k) (f (at s.cells k))) → Moved s r a
  changes a f b e h = record {
    block = λ k. let c = at s.cells k in rw e (changed-each (Moves (Hands s r a k) (Goes s r a k) c) f s.cells b k (moves_same _ _ c) (h k));
  }

  gains : (a : Answer) (b : ℕ) → a.state.cells ≡ changed more s.cells b → Moved s r a
  gains a b e = changes a more b e (λ k j. moves_grown _ _ _ _ (grown_more _ _ (grown_same _)))

  new-moved : arg r 0 ≡ 3 → (g n : ℕ) (payload : List ℕ) (f : Option ℕ) → found s.cells n ≡ f → Moved s r (new_in f g n payload s z)
  unfolding new_in new_event reply_of bytes
  new-moved e g n payload (Some b) q =
      changes _ handed_out b refl (λ k j. moves_handed _ _ (at s.cells k) (rw j (found-lowest s.cells (pool_for n) b q).free_there) ((e, refl), (new_ends s b g n payload z).event ∙ sym j))
  new-moved e g n payload None q = same _ refl

  publish-moved : arg r 0 ≡ 6 → (n : ℕ) → receivers s (signal_in s (arg r 1)) objects ≡ n → Moved s r (publish_done n (arg r 1) s z)
  unfolding publish_done reply_of bytes
  publish-moved e zero q = changes _ dropped (arg r 1) refl (λ k j. moves_dropped _ _ (at s.cells k) (sym j, inr ((e, refl), rw j q)))
  publish-moved e (suc n) q = record {
    block = λ k. moves_grown _ _ _ _ (published_grown (signal_in s (arg r 1)) (arg r 1) (at s.cells k) k objects s (grown_same _));
  }

  defer-moved : (h : Hand) (q v : ℕ) → Moved s r (answer (set_aside h q s) (done v 0) z)
  unfolding set_aside
  defer-moved Nothing q v = same _ refl
  defer-moved (Block b) q v = gains _ b refl
  defer-moved (Timer t g) q v = same _ refl

  recall-moved : (n q p : ℕ) → Moved s r (recall_done n q p s z)
  unfolding recall_done recalled
  recall-moved zero q p = same _ refl
  recall-moved (suc n) q p = same _ refl

  each : ByRecord (Moved s r) r d s z
  unfolding load start started_at arm armed_with disarm with_counter tick tick_done new post posted post_front posted_front publish subscribe unsubscribe wanting hold held
      release released drop_event read next stepped end drain drain_done defer recall flush flushed flag flag_set reply_of bytes
  each = record {
    load = λ e. unless-moved _ _ (fault_pick s z _ (Moved s r) (class_of (edition_of (arg r 1)) d) (λ j e. same _ refl) (λ e. same _ refl));
    start = λ e. unless-moved _ _ (same _ refl);
    new = λ e. unless-moved _ _ (new-moved e _ _ _ (found s.cells (arg r 2)) refl);
    post = λ e. unless-moved _ _ (gains _ (arg r 1) refl);
    post_front = λ e. unless-moved _ _ (gains _ (arg r 1) refl);
    publish = λ e. unless-moved _ _ (publish-moved e (receivers s (signal_in s (arg r 1)) objects) refl);
    subscribe = λ e. unless-moved _ _ (same _ refl);
    unsubscribe = λ e. unless-moved _ _ (same _ refl);
    hold = λ e. unless-moved _ _ (gains _ (arg r 1) refl);
    release = λ e. unless-moved _ _ (changes _ fewer (arg r 1) refl (λ k j. moves_fallen _ _ _ _ (fallen_fewer _ _ (fallen_same _))));
    drop_event = λ e. unless-moved _ _ (changes _ dropped (arg r 1) refl (λ k j. moves_dropped _ _ (at s.cells k) (sym j, inl (e, refl))));
    next = λ e. unless-moved _ _ (same _ refl);
    end = λ e. unless-moved _ _ (falls _ (λ k. ended_fallen (at s.cells k) k s (fallen_same _)));
    arm = λ e. unless-moved _ _ (same _ refl);
    disarm = λ e. unless-moved _ _ (same _ refl);
    tick = λ e. unless-moved _ _ (same _ (ticked-cells timers 0 (ticked s 0 0)));
    read = λ e. unless-moved _ _ (same _ refl);
    drain = λ e. unless-moved _ _ (falls _ (λ k. drained_fallen (at s.cells k) k _ 0 s _ _ (fallen_same _)));
    defer = λ e. unless-moved _ _ (defer-moved _ _ _);
    recall = λ e. unless-moved _ _ (recall-moved _ _ _);
    flush = λ e. unless-moved _ _ (falls _ (λ k. gone_fallen (at s.cells k) k _ s (fallen_same _)));
    flag = λ e. unless-moved _ _ (same _ refl);
  }

  pub moved : Moved s r (answer_to s r d z)
  moved = by_record (Moved s r) r d s z each (same _ refl)
