-- What one object adds to the count, to the test and to the posts.
use mathlib.Core.Bool.{Bool, true, false, cond, ◌||◌}
use mathlib.Core.List.{List}
use mathlib.Core.Path.{◌≡◌, refl, sym, ap, ◌∙◌}
use Prim.Native.Nat.{ℕ, zero, suc, ◌+◌, ◌-◌, ◌<◌, ◌≤◌}
use native.Mathlib.Nat.{add-zero, not-suc-le-zero}
use native.Mathlib.Numerals.{add-one}
use native.Mathlib.Omega.{arith}
use lib.Dec.{eqb}
use lib.ListN.{get_or, length}
use lib.Seq.{set-get_or}
use Rattle.machine.specs.Events.{full_receiver, posted, published, receivers}
use Rattle.machine.specs.Numbers.{objects}
use Rattle.machine.specs.State.{State, room, subscribed, want_place, with_boxes}
use Rattle.ground.specs.Bools.{cond_all}
use Rattle.mail.specs.Box.{behind, box_at, one, push_back}
use Rattle.mail.specs.Box as box
use Rattle.mail.specs.Laws.{changed_other}
use Rattle.mail.specs.View.{boxes}
use Rattle.mail.specs.declared.Ring.{Ring}
use Rattle.mail.specs.Entry.{entry_of}
use Rattle.mail.specs.declared.Hand.TheVariants.{Block}
use Rattle.pool.specs.Cell.{absent, more, more_by}
use Rattle.pool.specs.Laws.{changed_twice}
use Rattle.publish.specs.Arrays.{Reads, holding}

module _ (s : State) (g : ℕ) where
  receivers-step : (p : ℕ) → 0 < p → receivers s g p ≡ one (subscribed s p g) + receivers s g (p - 1)
  unfolding receivers
  receivers-step zero l = absurd (not-suc-le-zero l)
  receivers-step (suc n) l = let z : suc n - 1 ≡ n = omega arith in rw z refl

  full_step : (p : ℕ) → 0 < p → full_receiver s g p ≡ (cond (subscribed s p g) (eqb (room s p) 0) false || full_receiver s g (p - 1))
  unfolding full_receiver
  full_step zero l = absurd (not-suc-le-zero l)
  full_step (suc n) l = let z : suc n - 1 ≡ n = omega arith in rw z refl

  published-step : (b p : ℕ) → 0 < p → published s g b p ≡ published (cond (subscribed s p g) (posted s b p) s) g b (p - 1)
  unfolding published
  published-step b zero l = absurd (not-suc-le-zero l)
  published-step b (suc n) l = let z : suc n - 1 ≡ n = omega arith in rw z refl

  module _ (p : ℕ) (l : 0 < p) where
    -- v is 1 where p subscribes
    pub receivers-turn : (ws : List ℕ) (t : Bool) (n v all : ℕ) → s.wants ≡ ws → t ≡ eqb (get_or ws (want_place p g) 0) 1 → v ≡ one t →
        n + receivers s g p ≡ all → n + v + receivers s g (p - 1) ≡ all
    receivers-turn ws t n v all e et ev h = let f : receivers s g p ≡ v + receivers s g (p - 1) = receivers-step p l ∙ rw (e, ev, et) refl in omega arith

    -- t says whether p subscribes and has no place
    pub full_turn : (ws ds : List ℕ) (rings : List Ring) (t : Bool) → Reads s ws ds rings →
        t ≡ cond (eqb (get_or ws (want_place p g) 0) 1) (eqb (get_or ds (p - 1) 0 - length (box_at (boxes rings) (p - 1))) 0) false →
        full_receiver s g p ≡ (t || full_receiver s g (p - 1))
    full_turn ws ds rings t r e = full_step p l ∙ rw (r.wants, r.depths, r.queued (p - 1), e) refl

-- Before the posts no reference is added; each adds its entry and its reference.
module _ (s : State) (bs : List (List ℕ)) (b : ℕ) where
  pub none_added : holding s bs b 0 ≡ with_boxes bs s
  unfolding more_by
  none_added = rw (set-get_or s.cells b absent) refl

  -- t says whether p receives
  one_added : (n p : ℕ) (t : Bool) →
      holding s (cond t (push_back bs (p - 1) (entry_of (Block b))) bs) b (n + one t) ≡ cond t (posted (holding s bs b n) b p) (holding s bs b n)
  unfolding more_by posted
  one_added n p true = rw (add-one, changed_twice (more_by n) s.cells b more) refl
  one_added n p false = rw add-zero refl

  -- t says whether p subscribes, v is 1 where it does, and the mailboxes are `after` then
  pub published-turn : (g p : ℕ) → 0 < p → (ws : List ℕ) (t : Bool) (n v : ℕ) (after : List (List ℕ)) → s.wants ≡ ws → t ≡ eqb (get_or ws (want_place p g) 0) 1 → v ≡ one t →
      after ≡ cond t (push_back bs (p - 1) (entry_of (Block b))) bs → published (holding s after b (n + v)) g b (p - 1) ≡ published (holding s bs b n) g b p
  published-turn g p l ws t n v after e et ev eb = rw (eb, ev, one_added n p t, et, ← e) (sym (published-step (holding s bs b n) g b p l))

-- The first p objects are left to post to: those who subscribe have room, with the n that are counted they are all, and the posts to them
-- come to what all come to. The mailboxes were `first`, and are bs now.
pub record Left (ws : List ℕ) (first : List (List ℕ)) (b g : ℕ) (bs : List (List ℕ)) (n p : ℕ) : Type 0 where
  pub few : n + p ≤ objects
  pub places : (q : ℕ) → 1 ≤ q → q ≤ p → eqb (get_or ws (want_place q g) 0) 1 ≡ true → length (box_at bs (q - 1)) < box.room
  pub number : (s : State) → s.wants ≡ ws → n + receivers s g p ≡ receivers s g objects
  pub posts : (s : State) → s.wants ≡ ws → published (holding s bs b n) g b p ≡ published (with_boxes first s) g b objects

module _ (ws : List ℕ) (first : List (List ℕ)) (b g : ℕ) where
  pub left_all : ((q : ℕ) → 1 ≤ q → q ≤ objects → eqb (get_or ws (want_place q g) 0) 1 ≡ true → length (box_at first (q - 1)) < box.room) →
      Left ws first b g first 0 objects
  left_all h = record {
    few = omega arith;
    places = h;
    number = λ s e. omega arith;
    posts = λ s e. ap (λ t. published t g b objects) (none_added s first b);
  }

  module _ (bs : List (List ℕ)) (n : ℕ) where
    pub left_none : Left ws first b g bs n 0 → (s : State) → s.wants ≡ ws → (n ≡ receivers s g objects) × (holding s bs b n ≡ published (with_boxes first s) g b objects)
    unfolding published receivers
    left_none i s e = (sym (add-zero n) ∙ i.number s e, i.posts s e)

    module _ (p : ℕ) (l : 0 < p) (i : Left ws first b g bs n p) (t : Bool) (is : t ≡ eqb (get_or ws (want_place p g) 0) 1) where
      pub left_fewer : Left ws first b g (cond t (push_back bs (p - 1) (entry_of (Block b))) bs) (n + one t) (p - 1)
      left_fewer = record {
        few = let h = i.few in cond_all (λ v. n + v + (p - 1) ≤ objects) t (omega arith) (omega arith);
        places = λ q a h e. rw (others_stay t q (omega arith)) (i.places q a (omega arith) e);
        number = λ s e. receivers-turn s g p l ws t n (one t) _ e is refl (i.number s e);
        posts = λ s e. published-turn s bs b g p l ws t n (one t) _ e is refl refl ∙ i.posts s e;
      }
        where
          others_stay : (r : Bool) (q : ℕ) → (q - 1 ≡ p - 1 → ⊥) → box_at (cond r (push_back bs (p - 1) (entry_of (Block b))) bs) (q - 1) ≡ box_at bs (q - 1)
          others_stay true q ne = changed_other (behind (entry_of (Block b))) bs (p - 1) (q - 1) ne
          others_stay false q ne = refl
