-- A run in the midst of the steps of object p, and one step more of it.
use mathlib.Core.Bool.{Bool, true, false, cond}
use mathlib.Core.List.{List}
use mathlib.Core.Path.{◌≡◌, refl, sym, ap, ◌∙◌}
use Prim.Native.Nat.{ℕ, ◌+◌, ◌*◌, ◌-◌, ◌<◌, ◌≤◌}
use native.Mathlib.Decide.{dec_lt}
use native.Mathlib.Omega.{arith}
use lib.Dec.{eqb}
use lib.ListN.{length, get_or, length-set, get_or-eq_default}
use lib.Seq.{set-get_or, set-set}
use Rattle.chart.specs.Step.{Answer}
use Rattle.ground.specs.Range.{tab}
use Rattle.ground.specs.Tab.{get_or-tab, length-tab}
use Rattle.machine.specs.Numbers.{reply_bytes}
use Rattle.machine.specs.Reply.{over, reply_of, ran}
use Rattle.machine.specs.Run.{Run, onward}
use Rattle.machine.specs.State.{State}
use Rattle.machine.specs.Steps.{to_run, coming, next_answer, next_says, logged}
use Rattle.mail.specs.Box.{box_at, front, highest, took_first}
use Rattle.mail.specs.Laws.{changed-length, changed_other, first_front, first_length, first_more, first_none}
use Rattle.pool.specs.Row.{first_bytes, once_more}
use Rattle.drain.specs.Lent.{Above, Looks, Sized, flags_of, midway, run_at, seen_of, tables_of}
use Rattle.drain.specs.declared.Coming.{Coming}
use Rattle.drain.specs.declared.Fixed.{Fixed}
use Rattle.drain.proofs.Laws.{top_is}

module _ (bs : List (List ℕ)) (rs ts lg : List ℕ) (q from : ℕ) where
  -- where it begins
  pub at_first : run_at bs rs ts lg from ≡ midway bs rs ts lg q from (get_or rs q 0) from
  at_first = let z : from - from ≡ 0 = omega arith in rw (z, first_none bs q, set-get_or rs q 0) refl

  -- what is lent has its lengths when all is written back
  pub sized_back : (rest n : ℕ) → Sized (run_at bs rs ts lg n) → Sized (midway bs rs ts lg q from rest n)
  sized_back rest n z = record { mail = changed-length _ bs q ∙ z.mail; rests = length-set rs q rest ∙ z.rests; times = z.times; few = z.few; log = z.log }

-- and after one step more
module _ (ts : List ℕ) (b : ℕ) where
  abbrev more : ℕ → ℕ
  more k = get_or ts k 0 + cond (eqb k b) 1 0

  more-length : length (once_more ts b) ≡ first_bytes
  unfolding once_more
  more-length = length-tab more first_bytes

  one_more : (t : Bool) (m n : ℕ) → m ≤ n → m + cond t 1 0 ≤ n + 1
  one_more true m n h = omega arith
  one_more false m n h = omega arith

  more_few : (n k : ℕ) → get_or ts k 0 ≤ n → get_or (once_more ts b) k 0 ≤ n + 1
  unfolding once_more
  more_few n k h = go (dec_lt k first_bytes)
    where
      go : Dec (k < first_bytes) → get_or (tab more first_bytes) k 0 ≤ n + 1
      go (yes l) = rw (get_or-tab more first_bytes k 0 l) (one_more (eqb k b) (get_or ts k 0) n h)
      go (no l) =
          let past : length (tab more first_bytes) ≤ k = omega (arith, length-tab more first_bytes) in
          rw (get_or-eq_default (tab more first_bytes) 0 past) (omega arith)

pub sized_on : (bs : List (List ℕ)) (rs ts lg lg' : List ℕ) (b n : ℕ) → Sized (run_at bs rs ts lg n) → length lg' ≡ length lg →
    Sized (run_at bs rs (once_more ts b) lg' (n + 1))
sized_on bs rs ts lg lg' b n z e = record { mail = z.mail; rests = z.rests; times = more-length ts b; few = λ k. more_few ts b n k (z.few k); log = e ∙ z.log }

-- the mailboxes, of which those from p on are empty, when object p, the next below, has taken k of its entries
module _ (bs : List (List ℕ)) (p k : ℕ) (within : p - 1 < length bs) where
  abbrev after : List (List ℕ)
  after = took_first bs (p - 1) k

  pub left_is : length (box_at after (p - 1)) ≡ length (box_at bs (p - 1)) - k
  left_is = first_length bs (p - 1) within k

  pub front-is : get_or (box_at bs (p - 1)) k 0 ≡ front after (p - 1)
  front-is = sym (first_front bs (p - 1) within k)

  module _ (low : 0 < p) (above : Above p bs) where
    pub above_is : Above p after
    above_is q h = ap length (changed_other _ bs (p - 1) q (λ z. omega arith)) ∙ above q h

    -- as long as it has mail it is the highest
    pub top : k < length (box_at bs (p - 1)) → p ≡ highest after
    top h = let l : length after ≡ length bs = changed-length _ bs (p - 1) in top_is after p above_is low (omega arith) (λ z. omega (arith, left_is))

-- one step more
module _ (f : Fixed) (bs : List (List ℕ)) (rs ts lg : List ℕ) (p from rest n : ℕ) where
  abbrev x : Run
  x = midway bs rs ts lg (p - 1) from rest n

  abbrev s : State
  s = seen_of f x

  pub onward-is : from ≤ n → p ≡ to_run s → (l : Coming) → Looks s (coming s) l → (a : Answer) → a ≡ next_answer s (tables_of f) →
      midway bs rs (once_more ts l.first) (over lg (reply_bytes * n) (reply_of (ran p l.signal l.first l.generation a))) (p - 1) from a.next (n + 1)
      ≡ onward f.gens.now f.signals.now f.seats.now (flags_of f) (tables_of f) x
  unfolding onward logged next_says
  onward-is since e l w a r =
      let z : n + 1 - from ≡ n - from + 1 = omega arith in
      rw (z, ← first_more bs (p - 1) (n - from), w.signal, w.first, w.generation, r, ← e, set-set) refl
