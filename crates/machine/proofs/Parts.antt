-- Each part of the invariant after a change of the fields that it reads.
use mathlib.Core.Bool.{true, false}
use mathlib.Core.List.{List, [], ◌∷◌}
use mathlib.Core.Path.{◌≡◌, refl, ◌∙◌}
use Prim.Native.Nat.{ℕ, zero, suc, ◌+◌, ◌*◌, ◌≤◌, ◌<◌}
use native.Mathlib.Omega.{arith}
use borrow.Author.Tests.{eqb-true, eqb-false, not-true, not-false}
use lib.ListN.{length, get_or, set, length-set}
use lib.Seq.{get_or-set_same, get_or-set_other}
use Rattle.chart.specs.Numbers.{most_states}
use Rattle.ground.specs.Lists.{set_all}
use Rattle.mail.specs.Box
use Rattle.mail.specs.Box.{box_at, behind, ahead, rest, bare, push_back, push_front, took_front, emptied}
use Rattle.mail.specs.Entry.{hand_of}
use Rattle.mail.specs.Laws.{OfAll, all_back, all_front, all_took, all_emptied, behind-length, ahead-length, rest-length, bare-length}
use Rattle.pool.specs.Cell.{Cell, absent}
use Rattle.pool.specs.Laws.{changed-length}
use Rattle.pool.specs.Row.{blocks, changed}
use Rattle.machine.proofs.Counts.{MakesNoneLive}
use Rattle.machine.specs.Inv.{is_live, IsSignal, IsEvent, IsBlock, StoreOk, MailOk, SidesOk, ObjectsOk, WantsOk, ArmedOk, TimersOk}
use Rattle.machine.specs.Numbers.{objects, slots, edition_of, timers, most_holds, side_queues, most_aside, signal_places, capacity}
use Rattle.machine.specs.State.{State, Events, Objects, Timers, depth_of, started}

-- a list that has a number above 0 at a place has that place
pub has-place : (l : List ℕ) (i : ℕ) → 0 < get_or l i 0 → i < length l
has-place [] i h = absurd (omega arith)
has-place (x ∷ l) zero h = omega arith
has-place (x ∷ l) (suc i) h = omega (arith, has-place l i h)

-- an object is started if its mailbox is deep
pub started_deep : (s : State) (p : ℕ) → started s p ≡ true → 0 < depth_of s p
started_deep s p e = let ne = eqb-false (depth_of s p) 0 (not-true _ e) in omega arith

pub unstarted_deep : (s : State) (p : ℕ) → started s p ≡ false → depth_of s p ≡ 0
unstarted_deep s p e = eqb-true (depth_of s p) 0 (not-false _ e)

-- The blocks and their events.
module _ (cells : List Cell) (e : Events) (b : ℕ) (ok : StoreOk cells e) (l : b < blocks) where
  pub store_changed : (f : Cell → Cell) → MakesNoneLive f → StoreOk (changed f cells b) e
  store_changed f none =
      let m : b < length cells = omega arith in
      record {
        cells-length = changed-length f cells b ∙ ok.cells-length;
        signals-length = ok.signals-length;
        sizes_length = ok.sizes_length;
        holds_length = ok.holds_length;
        signal = set_all (λ k c. is_live c ≡ true → IsSignal (get_or e.signals k 0)) cells absent b _ m (λ k ne. ok.signal k) (λ h. ok.signal b (none _ h));
        size = set_all (λ k c. is_live c ≡ true → get_or e.sizes k 0 ≤ capacity k) cells absent b _ m (λ k ne. ok.size k) (λ h. ok.size b (none _ h));
        held = ok.held;
      }

  pub store_holds : (n : ℕ) → n ≤ most_holds → StoreOk cells (record { signals = e.signals; sizes = e.sizes; holds = set e.holds b n })
  store_holds n h = record {
    cells-length = ok.cells-length;
    signals-length = ok.signals-length;
    sizes_length = ok.sizes_length;
    holds_length = length-set e.holds b n ∙ ok.holds_length;
    signal = ok.signal;
    size = ok.size;
    held = set_all (λ k (x : ℕ). x ≤ most_holds) e.holds 0 b n (omega arith) (λ k ne. ok.held k) h;
  }

  pub store_new : (f : Cell → Cell) (g n : ℕ) → IsSignal g → n ≤ capacity b →
      StoreOk (changed f cells b) (record { signals = set e.signals b g; sizes = set e.sizes b n; holds = set e.holds b 0 })
  store_new f g n sig fits =
      let m : b < length cells = omega arith in
      record {
        cells-length = changed-length f cells b ∙ ok.cells-length;
        signals-length = length-set e.signals b g ∙ ok.signals-length;
        sizes_length = length-set e.sizes b n ∙ ok.sizes_length;
        holds_length = length-set e.holds b 0 ∙ ok.holds_length;
        signal =
            set_all (λ k c. is_live c ≡ true → IsSignal (get_or (set e.signals b g) k 0)) cells absent b _ m
            (λ k ne h. rw (get_or-set_other e.signals b k g 0 ne) (ok.signal k h))
            (λ h. rw (get_or-set_same e.signals b g 0 (omega arith)) sig);
        size =
            set_all (λ k c. is_live c ≡ true → get_or (set e.sizes b n) k 0 ≤ capacity k) cells absent b _ m
            (λ k ne h. rw (get_or-set_other e.sizes b k n 0 ne) (ok.size k h))
            (λ h. rw (get_or-set_same e.sizes b n 0 (omega arith)) fits);
        held = set_all (λ k (x : ℕ). x ≤ most_holds) e.holds 0 b 0 (omega arith) (λ k ne. ok.held k) (omega arith);
      }

-- The mailboxes.
module _ (boxes : List (List ℕ)) (depths : List ℕ) (q : ℕ) (ok : MailOk boxes depths) (l : q < objects) where
  mail_changed : (f : List ℕ → List ℕ) → length (f (box_at boxes q)) ≤ get_or depths q 0 → OfAll (λ e. IsEvent (hand_of e)) (Box.changed f boxes q) →
      MailOk (Box.changed f boxes q) depths
  unfolding Box.changed
  mail_changed f h all = record {
    boxes-length = length-set boxes q _ ∙ ok.boxes-length;
    deep = ok.deep;
    room = set_all (λ k (x : List ℕ). length x ≤ get_or depths k 0) boxes [] q _ (omega arith) (λ k ne. ok.room k) h;
    entries = all;
  }

  pub mail_back : (e : ℕ) → length (box_at boxes q) < get_or depths q 0 → IsEvent (hand_of e) → MailOk (push_back boxes q e) depths
  mail_back e h is = mail_changed (behind e) (omega (arith, behind-length e (box_at boxes q))) (all_back (λ e. IsEvent (hand_of e)) boxes q ok.entries e is)

  pub mail_front : (e : ℕ) → length (box_at boxes q) < get_or depths q 0 → IsEvent (hand_of e) → MailOk (push_front boxes q e) depths
  mail_front e h is = mail_changed (ahead e) (omega (arith, ahead-length e (box_at boxes q))) (all_front (λ e. IsEvent (hand_of e)) boxes q ok.entries e is)

  pub mail_took : MailOk (took_front boxes q) depths
  mail_took = mail_changed rest (omega (arith, rest-length (box_at boxes q), ok.room q)) (all_took (λ e. IsEvent (hand_of e)) boxes q ok.entries)

  -- a mailbox that becomes n deep
  pub mail_deep : (n : ℕ) → q < length depths → n ≤ Box.room → get_or depths q 0 ≤ n → MailOk boxes (set depths q n)
  mail_deep n m h k = record {
    boxes-length = ok.boxes-length;
    deep = set_all (λ k (x : ℕ). x ≤ Box.room) depths 0 q n m (λ k ne. ok.deep k) h;
    room = set_all (λ k (x : ℕ). length (box_at boxes k) ≤ x) depths 0 q n m (λ k ne. ok.room k) (omega (arith, ok.room q));
    entries = ok.entries;
  }

-- The side queues.
module _ (sides : List (List ℕ)) (q : ℕ) (ok : SidesOk sides) (l : q < side_queues) where
  sides_changed : (f : List ℕ → List ℕ) → length (f (box_at sides q)) ≤ most_aside → OfAll (λ e. IsBlock (hand_of e)) (Box.changed f sides q) →
      SidesOk (Box.changed f sides q)
  unfolding Box.changed
  sides_changed f h all = record {
    sides_length = length-set sides q _ ∙ ok.sides_length;
    room = set_all (λ k (x : List ℕ). length x ≤ most_aside) sides [] q _ (omega arith) (λ k ne. ok.room k) h;
    entries = all;
  }

  pub sides_back : (e : ℕ) → length (box_at sides q) < most_aside → IsBlock (hand_of e) → SidesOk (push_back sides q e)
  sides_back e h is = sides_changed (behind e) (omega (arith, behind-length e (box_at sides q))) (all_back (λ e. IsBlock (hand_of e)) sides q ok.entries e is)

  pub sides_took : SidesOk (took_front sides q)
  sides_took = sides_changed rest (omega (arith, rest-length (box_at sides q), ok.room q)) (all_took (λ e. IsBlock (hand_of e)) sides q ok.entries)

  pub sides_emptied : SidesOk (emptied sides q)
  sides_emptied = sides_changed bare (omega (arith, bare-length (box_at sides q))) (all_emptied (λ e. IsBlock (hand_of e)) sides q ok.entries)

-- what is started stays so
abbrev pub StaysStarted : List ℕ → List ℕ → Type 0
StaysStarted depths later = (q : ℕ) → 0 < get_or depths q 0 → 0 < get_or later q 0

pub stays_deep : (depths : List ℕ) (q n : ℕ) → q < length depths → 0 < n → StaysStarted depths (set depths q n)
stays_deep depths q n l h = set_all (λ k (x : ℕ). 0 < get_or depths k 0 → 0 < x) depths 0 q n l (λ k ne j. j) (λ j. h)

-- The objects.
module _ (o : Objects) (loaded : List ℕ) (ok : ObjectsOk o loaded) (q : ℕ) where
  pub objects-rest : (r : ℕ) → q < objects → 1 ≤ r → r ≤ most_states (edition_of (get_or o.seats q 0)) →
      ObjectsOk (record { depths = o.depths; rests = set o.rests q r; seats = o.seats }) loaded
  objects-rest r l low high = record {
    depths_length = ok.depths_length;
    rests_length = length-set o.rests q r ∙ ok.rests_length;
    seats_length = ok.seats_length;
    loaded_length = ok.loaded_length;
    rested =
        set_all (λ k (x : ℕ). 0 < get_or o.depths k 0 → (1 ≤ x) × (x ≤ most_states (edition_of (get_or o.seats k 0)))) o.rests 0 q r (omega arith)
        (λ k ne. ok.rested k)
        (λ h. (low, high));
    seated = ok.seated;
  }

  pub objects-start : (n r c : ℕ) → q < objects → 1 ≤ r → r ≤ most_states (edition_of c) → c < slots → get_or loaded c 0 ≡ 1 →
      ObjectsOk (record { depths = set o.depths q n; rests = set o.rests q r; seats = set o.seats q c }) loaded
  objects-start n r c l low high is-slot is-loaded =
      let m : q < length o.depths = omega arith in
      let rest : ℕ → ℕ = λ k. get_or (set o.rests q r) k 0 in
      let seat : ℕ → ℕ = λ k. get_or (set o.seats q c) k 0 in
      record {
        depths_length = length-set o.depths q n ∙ ok.depths_length;
        rests_length = length-set o.rests q r ∙ ok.rests_length;
        seats_length = length-set o.seats q c ∙ ok.seats_length;
        loaded_length = ok.loaded_length;
        rested =
            set_all (λ k (x : ℕ). 0 < x → (1 ≤ rest k) × (rest k ≤ most_states (edition_of (seat k)))) o.depths 0 q n m
            (λ k ne h. rw (get_or-set_other o.rests q k r 0 ne, get_or-set_other o.seats q k c 0 ne) (ok.rested k h))
            (λ h. rw (get_or-set_same o.rests q r 0 (omega arith), get_or-set_same o.seats q c 0 (omega arith)) (low, high));
        seated =
            set_all (λ k (x : ℕ). 0 < x → (seat k < slots) × (get_or loaded (seat k) 0 ≡ 1)) o.depths 0 q n m
            (λ k ne h. rw (get_or-set_other o.seats q k c 0 ne) (ok.seated k h))
            (λ h. rw (get_or-set_same o.seats q c 0 (omega arith)) (is-slot, is-loaded));
      }

  pub objects-load : q < slots → ObjectsOk o (set loaded q 1)
  objects-load l = record {
    depths_length = ok.depths_length;
    rests_length = ok.rests_length;
    seats_length = ok.seats_length;
    loaded_length = length-set loaded q 1 ∙ ok.loaded_length;
    rested = ok.rested;
    seated = λ k h. ((ok.seated k h).0, stays (get_or o.seats k 0) (ok.seated k h).1);
  }
    where
      stays : (c : ℕ) → get_or loaded c 0 ≡ 1 → get_or (set loaded q 1) c 0 ≡ 1
      stays = set_all (λ k (x : ℕ). get_or loaded k 0 ≡ 1 → x ≡ 1) loaded 0 q 1 (omega arith) (λ k ne h. h) (λ h. refl)

-- The subscriptions.
module _ (wants depths : List ℕ) (ok : WantsOk wants depths) where
  pub wants_set : (q g v : ℕ) → q < objects → g < signal_places → (v ≡ 1 → 0 < get_or depths q 0) → WantsOk (set wants (signal_places * q + g) v) depths
  wants_set q g v l m h = record {
    wants_length = length-set wants (signal_places * q + g) v ∙ ok.wants_length;
    wanted = λ k j n e. is-started (signal_places * k + j) e k j n refl;
  }
    where
      is-started : (i : ℕ) → get_or (set wants (signal_places * q + g) v) i 0 ≡ 1 → (k j : ℕ) → j < signal_places → i ≡ signal_places * k + j → 0 < get_or depths k 0
      is-started =
          set_all (λ i (x : ℕ). x ≡ 1 → (k j : ℕ) → j < signal_places → i ≡ signal_places * k + j → 0 < get_or depths k 0) wants 0 (signal_places * q + g) v (omega arith)
          (λ i ne e k j n p. ok.wanted k j n (rw p at e))
          (λ e k j n p. let z : k ≡ q = omega arith in rw z (h e))

  pub wants_stay : (later : List ℕ) → StaysStarted depths later → WantsOk wants later
  wants_stay later stays = record { wants_length = ok.wants_length; wanted = λ q g l e. stays q (ok.wanted q g l e) }

-- The timers.
module _ (x : Timers) (depths : List ℕ) (ok : TimersOk x depths) where
  pub timers_stay : (later : List ℕ) → StaysStarted depths later → TimersOk x later
  timers_stay later stays = record {
    owners_length = ok.owners_length;
    alarms_length = ok.alarms_length;
    counters_length = ok.counters_length;
    intervals_length = ok.intervals_length;
    armed = λ t h. let a = ok.armed t h in record { low = a.low; high = a.high; present = stays _ a.present; signal = a.signal };
  }

  module _ (t : ℕ) (l : t < timers) where
    pub timers-count : (c : ℕ) → (0 < c → ArmedOk depths (get_or x.owners t 0) (get_or x.alarms t 0)) →
        TimersOk (record { owners = x.owners; alarms = x.alarms; counters = set x.counters t c; intervals = x.intervals }) depths
    timers-count c h = record {
      owners_length = ok.owners_length;
      alarms_length = ok.alarms_length;
      counters_length = length-set x.counters t c ∙ ok.counters_length;
      intervals_length = ok.intervals_length;
      armed =
          set_all (λ k (n : ℕ). 0 < n → ArmedOk depths (get_or x.owners k 0) (get_or x.alarms k 0)) x.counters 0 t c (omega arith)
          (λ k ne. ok.armed k)
          h;
    }

    pub timers-arm : (p g c n : ℕ) → ArmedOk depths p g →
        TimersOk (record { owners = set x.owners t p; alarms = set x.alarms t g; counters = set x.counters t c; intervals = set x.intervals t n }) depths
    timers-arm p g c n h = record {
      owners_length = length-set x.owners t p ∙ ok.owners_length;
      alarms_length = length-set x.alarms t g ∙ ok.alarms_length;
      counters_length = length-set x.counters t c ∙ ok.counters_length;
      intervals_length = length-set x.intervals t n ∙ ok.intervals_length;
      armed =
          set_all (λ k (m : ℕ). 0 < m → ArmedOk depths (get_or (set x.owners t p) k 0) (get_or (set x.alarms t g) k 0)) x.counters 0 t c (omega arith)
          (λ k ne m. rw (get_or-set_other x.owners t k p 0 ne, get_or-set_other x.alarms t k g 0 ne) (ok.armed k m))
          (λ m. rw (get_or-set_same x.owners t p 0 (omega arith), get_or-set_same x.alarms t g 0 (omega arith)) h);
    }
