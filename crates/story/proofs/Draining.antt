-- Demand 2, DRAIN: it is so many times NEXT and END.
use mathlib.Core.List.{List}
use mathlib.Core.Path.{◌≡◌, refl, ◌∙◌}
use Prim.Native.Nat.{ℕ, zero, suc, ◌+◌, ◌*◌, ◌≤◌, ◌<◌}
use native.Mathlib.Omega.{arith}
use borrow.Author.Tests.{eqb-true, eqb-false}
use lib.Dec.{eqb}
use lib.ListN.{length, take, drop}
use Rattle.ground.specs.Bools.{cond_pick}
use Rattle.machine.proofs.Replies.{reply-length}
use Rattle.machine.specs.Numbers.{reply_bytes}
use Rattle.machine.specs.Reply.{BothTables, lowest, reply_of}
use Rattle.machine.specs.State.{State}
use Rattle.machine.specs.Steps.{step_tests, stepped, next_says, ended, Drained, logged, drain_from}
use Rattle.story.proofs.Over.{over-length, over-here, over-before, over-after}

-- k steps on from a state.
unfoldable pub onward : BothTables → ℕ → State → State
onward tables zero s = s
onward tables (suc k) s = onward tables k (ended (stepped s tables))

pub onward-last : (tables : BothTables) (k : ℕ) (s : State) → onward tables (suc k) s ≡ ended (stepped (onward tables k s) tables)
unfolding onward
onward-last tables zero s = refl
onward-last tables (suc k) s = onward-last tables k (ended (stepped s tables))

-- What DRAIN comes to in m steps of at most k, after n.
pub record Comes (tables : BothTables) (k n : ℕ) (s : State) (log : List ℕ) (x : Drained) (m : ℕ) : Type 0 where
  pub steps : x.steps ≡ n + m
  pub most : m ≤ k
  pub state : x.state ≡ onward tables m s
  pub size : length x.log ≡ length log
  pub each : (i : ℕ) → i < m → lowest (step_tests (onward tables i s) tables) ≡ 0
  pub stuck : m < k → lowest (step_tests (onward tables m s) tables) ≡ 0 → ⊥
  pub lines : (i : ℕ) → i < m → take reply_bytes (drop (reply_bytes * (n + i)) x.log) ≡ reply_of (next_says (onward tables i s) tables)
  pub before : (j : ℕ) → j + reply_bytes ≤ reply_bytes * n → take reply_bytes (drop j x.log) ≡ take reply_bytes (drop j log)
  pub after : drop (reply_bytes * (n + m)) x.log ≡ drop (reply_bytes * (n + m)) log

module _ (tables : BothTables) where
  -- no step
  stops : (k n : ℕ) (s : State) (log : List ℕ) → (0 < k → lowest (step_tests s tables) ≡ 0 → ⊥) → Comes tables k n s log (record { steps = n; state = s; log = log }) 0
  unfolding onward
  stops k n s log h = record {
    steps = omega arith;
    most = omega arith;
    state = refl;
    size = refl;
    each = λ i l. absurd (omega arith);
    stuck = h;
    lines = λ i l. absurd (omega arith);
    before = λ j l. refl;
    after = refl;
  }

  -- a step, and then others
  module _ (k n : ℕ) (s : State) (log : List ℕ) (fits : reply_bytes * (n + suc k) ≤ length log) where
    line-length : length (reply_of (next_says s tables)) ≡ reply_bytes
    line-length = reply-length (next_says s tables)

    room : reply_bytes * n + length (reply_of (next_says s tables)) ≤ length log
    room = omega (arith, line-length)

    log_length : length (logged s tables n log) ≡ length log
    unfolding logged
    log_length = over-length log (reply_bytes * n) _ room

    goes_on : (x : Drained) (m : ℕ) → lowest (step_tests s tables) ≡ 0 →
        Comes tables k (n + 1) (ended (stepped s tables)) (logged s tables n log) x m → Comes tables (suc k) n s log x (suc m)
    unfolding onward logged
    goes_on x m t w = record {
      steps = omega (arith, w.steps);
      most = omega (arith, w.most);
      state = w.state;
      size = w.size ∙ log_length;
      each = each;
      stuck = λ l. w.stuck (omega arith);
      lines = lines;
      before = λ j l. w.before j (omega arith) ∙ over-before log (reply_bytes * n) _ room j reply_bytes l;
      after =
          let e : reply_bytes * (n + suc m) ≡ reply_bytes * (n + 1 + m) = omega arith in
          rw e (w.after ∙ over-after log (reply_bytes * n) _ room (reply_bytes * (n + 1 + m)) (omega (arith, line-length)));
    }
      where
        each : (i : ℕ) → i < suc m → lowest (step_tests (onward tables i s) tables) ≡ 0
        each zero l = t
        each (suc i) l = w.each i (omega arith)

        lines : (i : ℕ) → i < suc m → take reply_bytes (drop (reply_bytes * (n + i)) x.log) ≡ reply_of (next_says (onward tables i s) tables)
        lines zero l =
            let e : reply_bytes * (n + 0) ≡ reply_bytes * n = omega arith in
            rw e (w.before (reply_bytes * n) (omega arith) ∙ rw line-length at (over-here log (reply_bytes * n) (reply_of (next_says s tables)) room))
        lines (suc i) l = let e : reply_bytes * (n + suc i) ≡ reply_bytes * (n + 1 + i) = omega arith in rw e (w.lines i (omega arith))

  pub drain_comes : (k n : ℕ) (s : State) (log : List ℕ) → reply_bytes * (n + k) ≤ length log → (m : ℕ) × Comes tables k n s log (drain_from k n s tables log) m
  unfolding drain_from
  drain_comes zero n s log fits = (0, stops 0 n s log (λ l. absurd (omega arith)))
  drain_comes (suc k) n s log fits =
      cond_pick (λ (x : Drained). (m : ℕ) × Comes tables (suc k) n s log x m) (eqb (lowest (step_tests s tables)) 0) _ _
      (λ t.
      let u = eqb-true _ 0 t in
      let w = drain_comes k (n + 1) (ended (stepped s tables)) (logged s tables n log) (omega (arith, log_length k n s log fits)) in
      (suc w.0, goes_on k n s log fits _ w.0 u w.1))
      (λ t. (0, stops (suc k) n s log (λ l. eqb-false _ 0 t)))
