-- Every reply has 28 bytes and a number up to 15; a refusal leaves everything else as it was.
use mathlib.Core.Bool.{Bool, true, false, cond, not, ◌&&◌}
use mathlib.Core.List.{List, [], ◌∷◌}
use mathlib.Core.Path.{◌≡◌, refl}
use Prim.Native.Nat.{ℕ, zero, suc, ◌≤◌, ◌<◌}
use native.Mathlib.Omega.{arith}
use borrow.Author.Tests.{leb-true, not-true}
use lib.Dec.{eqb, leb}
use lib.ListN.{length, get_or, replicate, length-append}
use Rattle.std.proofs.Common.{Option, Some, None}
use Rattle.ground.specs.Bytes.{padded}
use Rattle.ground.specs.Padding.{length-padded}
use Rattle.ground.specs.Bools.{and_left, and_right, cond_pick}
use Rattle.chart.specs.Chart.{class_of}
use Rattle.chart.specs.Numbers.{most_actions}
use Rattle.chart.specs.Step
use Rattle.machine.proofs.Dispatch.{OfEach, answer_all}
use Rattle.machine.proofs.Tests.{unless_pick, fault_pick}
use Rattle.machine.specs.Aside.{defer_tests, defer, recall_tests, recall_done, recall, flush_tests, flush}
use Rattle.machine.specs.Charts.{load_tests, load, start_tests, start, flag_tests, flag}
use Rattle.machine.specs.Clocks.{arm_tests, arm, disarm_tests, disarm, tick_done, tick}
use Rattle.machine.specs.Events.{
  new_tests,
  new_in,
  new,
  post_tests,
  post,
  post_front_tests,
  post_front,
  publish_tests,
  publish_done,
  publish,
  subscribe_tests,
  subscribe,
  unsubscribe,
  hold_tests,
  hold,
  release_tests,
  release,
  drop_tests,
  drop_event,
  read_tests,
  read,
}
use Rattle.machine.specs.Machine.{arg, answer_to}
use Rattle.machine.specs.Numbers.{edition_of, reply_bytes}
use Rattle.machine.specs.Reply.{FORM, CHART, Said, no, bad_chart, done, made, ran, shown, handle, bytes, reply_of, Areas, Answer, answer, lowest, unless, unless_fault}
use Rattle.machine.specs.State.{State}
use Rattle.machine.specs.Steps.{step_tests, next_tests, next_says, next, end_tests, end, drain_tests, drain_done, drain}

bytes-length : (n p outcome g count v w : ℕ) (acts event : List ℕ) → length event ≡ 4 → length (bytes n p outcome g count v w acts event) ≡ reply_bytes
unfolding bytes
bytes-length n p outcome g count v w acts event e = omega (arith, length-append (padded most_actions acts) event, length-padded most_actions acts, e)

pub reply-length : (w : Said) → length (reply_of w) ≡ reply_bytes
unfolding reply_of handle
reply-length (no n) = bytes-length _ _ _ _ _ _ _ _ _ refl
reply-length (bad_chart c) = bytes-length _ _ _ _ _ _ _ _ _ refl
reply-length (done v w) = bytes-length _ _ _ _ _ _ _ _ _ refl
reply-length (made b gen mark) = bytes-length _ _ _ _ _ _ _ _ _ refl
reply-length (ran p g first gen b) = bytes-length _ _ _ _ _ _ _ _ _ refl
reply-length (shown l) = bytes-length _ _ _ _ _ _ _ _ _ refl

-- The number of an answer.
abbrev pub number_of : Answer → ℕ
number_of a = get_or a.reply 0 0

-- A refusal: only the reply is written, which is the number and zeros, but for CHART, whose value byte is the class of the chart d by the
-- edition of the slot that the record r names.
abbrev class_in : List ℕ → List ℕ → ℕ
class_in r d = class_of (edition_of (arg r 1)) d

pub record Refuses (r d : List ℕ) (s : State) (z : Areas) (a : Answer) : Type 0 where
  pub state : a.state ≡ s
  pub areas : a.areas ≡ z
  pub reply : a.reply ≡ number_of a ∷ 0 ∷ 0 ∷ 0 ∷ cond (eqb (number_of a) CHART) (class_in r d) 0 ∷ replicate 23 0

pub record Replies (r d : List ℕ) (s : State) (z : Areas) (a : Answer) : Type 0 where
  pub long : length a.reply ≡ reply_bytes
  pub small : number_of a ≤ 15
  pub refusal : 0 < number_of a → Refuses r d s z a

-- The numbers of a list of tests are refusals other than CHART: of a list that is written out this computes.
abbrev refusals : List (ℕ × Bool) → Bool
refusals [] = true
refusals (x ∷ l) = leb x.0 15 && (not (eqb x.0 CHART) && refusals l)

record Refusal (n : ℕ) : Type 0 where
  small : n ≤ 15
  other : eqb n CHART ≡ false

refusal_is : (l : List (ℕ × Bool)) → refusals l ≡ true → Refusal (lowest l)
unfolding lowest
refusal_is [] h = record { small = omega arith; other = refl }
refusal_is (x ∷ l) h =
    let more = and_right (leb x.0 15) (not (eqb x.0 CHART) && refusals l) h in
    cond_pick Refusal x.1 x.0 (lowest l)
    (λ e. record {
      small = leb-true x.0 15 (and_left (leb x.0 15) (not (eqb x.0 CHART) && refusals l) h);
      other = not-true _ (and_left (not (eqb x.0 CHART)) (refusals l) more);
    })
    (λ e. refusal_is l (and_right (not (eqb x.0 CHART)) (refusals l) more))

module _ (r d : List ℕ) (s : State) (z : Areas) where
  -- what is done has the number 0
  module _ (t : State) (y : Areas) where
    does : (w : Said) → get_or (reply_of w) 0 0 ≡ 0 → Replies r d s z (answer t w y)
    does w e = record { long = reply-length w; small = omega arith; refusal = λ h. absurd (omega arith) }

    says : (v w : ℕ) → Replies r d s z (answer t (done v w) y)
    unfolding reply_of bytes
    says v w = does (done v w) refl

    makes : (b gen mark : ℕ) → Replies r d s z (answer t (made b gen mark) y)
    unfolding reply_of bytes
    makes b gen mark = does (made b gen mark) refl

    runs : (p g first gen : ℕ) (b : Step.Answer) → Replies r d s z (answer t (ran p g first gen b) y)
    unfolding reply_of bytes
    runs p g first gen b = does (ran p g first gen b) refl

    shows : (l : List ℕ) → Replies r d s z (answer t (shown l) y)
    unfolding reply_of bytes
    shows l = does (shown l) refl

  refuses : (n : ℕ) → Refusal n → Replies r d s z (answer s (no n) z)
  unfolding reply_of bytes padded
  refuses n is = record { long = reply-length (no n); small = is.small; refusal = λ h. record { state = refl; areas = refl; reply = rw is.other refl } }

  unless_replies : (l : List (ℕ × Bool)) (a : Answer) → refusals l ≡ true → Replies r d s z a → Replies r d s z (unless (lowest l) s z a)
  unless_replies l a h k = unless_pick s z a (Replies r d s z) (lowest l) (λ n e. refuses (suc n) (rw e at (refusal_is l h))) (λ e. k)

  -- LOAD, whose chart has a class
  fault_replies : (a : Answer) → Replies r d s z a → Replies r d s z (unless_fault (class_in r d) s z a)
  unfolding reply_of bytes padded
  fault_replies a k =
      fault_pick s z a (Replies r d s z) (class_in r d)
      (λ c e. record { long = reply-length (bad_chart (suc c)); small = omega arith; refusal = λ h. record { state = refl; areas = refl; reply = rw e refl } })
      (λ e. k)

  new_in_replies : (f : Option ℕ) (g n : ℕ) (payload : List ℕ) → Replies r d s z (new_in f g n payload s z)
  unfolding new_in
  new_in_replies (Some b) g n payload = makes _ _ _ _ _
  new_in_replies None g n payload = says _ _ _ _

  publish_done_replies : (n b : ℕ) → Replies r d s z (publish_done n b s z)
  unfolding publish_done
  publish_done_replies zero b = says _ _ _ _
  publish_done_replies (suc n) b = says _ _ _ _

  recall_done_replies : (n q p : ℕ) → Replies r d s z (recall_done n q p s z)
  unfolding recall_done
  recall_done_replies zero q p = says _ _ _ _
  recall_done_replies (suc n) q p = says _ _ _ _

  each : OfEach (Replies r d s z) r d s z
  unfolding load load_tests start start_tests arm arm_tests disarm disarm_tests tick tick_done
      new new_tests post post_tests post_front post_front_tests publish publish_tests subscribe unsubscribe subscribe_tests hold hold_tests
      release release_tests drop_event drop_tests read read_tests next next_tests step_tests next_says end end_tests drain drain_tests drain_done defer defer_tests recall recall_tests
      flush flush_tests flag flag_tests
  each = record {
    load = λ u. unless_replies (load_tests u (arg r 1) s z.tables) _ refl (fault_replies _ (says _ _ _ _));
    start = λ u p q depth. unless_replies (start_tests u p q depth s z.tables) _ refl (runs _ _ _ _ _ _ _);
    new = λ u g n payload. unless_replies (new_tests u g n s z.payloads) _ refl (new_in_replies _ g n payload);
    post = λ u b gen p margin. unless_replies (post_tests u b gen p margin s) _ refl (says _ _ _ _);
    post_front = λ u b gen p. unless_replies (post_front_tests u b gen p s) _ refl (says _ _ _ _);
    publish = λ u b gen. unless_replies (publish_tests u b gen s) _ refl (publish_done_replies _ b);
    subscribe = λ u p g. unless_replies (subscribe_tests u p g s) _ refl (says _ _ _ _);
    unsubscribe = λ u p g. unless_replies (subscribe_tests u p g s) _ refl (says _ _ _ _);
    hold = λ u b gen. unless_replies (hold_tests u b gen s) _ refl (says _ _ _ _);
    release = λ u b gen. unless_replies (release_tests u b gen s) _ refl (says _ _ _ _);
    drop_event = λ u b gen. unless_replies (drop_tests u b gen s) _ refl (says _ _ _ _);
    next = λ u. unless_replies (next_tests u s z.tables) _ refl (runs _ _ _ _ _ _ _);
    end = λ u. unless_replies (end_tests u s) _ refl (says _ _ _ _);
    arm = λ u t p g ticks interval. unless_replies (arm_tests u t p g ticks s) _ refl (says _ _ _ _);
    disarm = λ u t. unless_replies (disarm_tests u t) _ refl (says _ _ _ _);
    tick = λ u. unless_replies ((FORM, u) ∷ []) _ refl (says _ _ _ _);
    read = λ u b gen. unless_replies (read_tests u b gen s z.payloads) _ refl (shows _ _ _);
    drain = λ u budget. unless_replies (drain_tests u s z.tables z.log) _ refl (says _ _ _ _);
    defer = λ u q. unless_replies (defer_tests u q s) _ refl (says _ _ _ _);
    recall = λ u q p. unless_replies (recall_tests u q p s) _ refl (recall_done_replies _ q p);
    flush = λ u q. unless_replies (flush_tests u q) _ refl (says _ _ _ _);
    flag = λ u p f v. unless_replies (flag_tests u p f v s) _ refl (says _ _ _ _);
    form = refuses FORM (record { small = omega arith; other = refl });
  }

pub replies : (s : State) (r d : List ℕ) (z : Areas) → Replies r d s z (answer_to s r d z)
replies s r d z = answer_all (Replies r d s z) r d s z (each r d s z)
