-- Document 02, request 3: what DEFER, RECALL and FLUSH do to the side queues, that nothing else changes them, and that what is set aside lives.
use mathlib.Core.Bool.{false}
use mathlib.Core.List.{List, [], ◌∷◌}
use mathlib.Core.Logic.{◌⊎◌, inl, inr, ⊎_elim}
use mathlib.Core.Path.{◌≡◌, refl, sym, ap, ◌∙◌}
use Prim.Native.Nat.{ℕ, zero, suc, ◌+◌, ◌-◌, ◌≤◌, ◌<◌}
use native.Mathlib.Nat.{not-suc-le-zero}
use native.Mathlib.Omega.{arith}
use borrow.Author.Tests.{not-false}
use lib.Dec.{eqb}
use lib.ListN.{length, get_or}
use Rattle.ground.specs.Bools.{eq_or}
use Rattle.mail.specs.Box.{box_at, behind, ahead, rest, bare, one, occurrences, times_in}
use Rattle.mail.specs.Entry.{entry_of, hand_of}
use Rattle.mail.specs.Laws.{block_entry, changed-here, changed_other, behind-length, occurrences-back, occurrences-front, occurrences_took, occurrences-emptied, occurrences-has}
use Rattle.mail.specs.declared.Hand.TheVariants.{Block}
use Rattle.machine.proofs.Counts.{live_counted, same_entry}
use Rattle.machine.proofs.Flush.{a_block, let_go_each_lem}
use Rattle.machine.proofs.KeepsAside.{open_block}
use Rattle.machine.proofs.Tests.{NoneHolds, none_holds, within_low, within_high, within-side}
use Rattle.machine.specs.Aside
use Rattle.machine.specs.Aside.{defer_tests, set_aside, recall_tests, oldest, recall_done, flush_tests}
use Rattle.machine.specs.Inv.{Inv, references}
use Rattle.machine.specs.Machine.{spoilt}
use Rattle.machine.specs.Numbers.{objects, no_side}
use Rattle.machine.specs.Reply.{answer, done, reply_of, bytes}
use Rattle.machine.specs.State.{State, box_of, side_of}
use Rattle.story.specs.Calls.{Call, Story, then, kernel, answer_in}
use Rattle.story.specs.Demands.{Deferred, Recalled, Flushed, OnlyAside, KeptAside}
use Rattle.story.specs.Table.{DEFER, RECALL, FLUSH}
use Rattle.story.specs.Terms.{argument, command_of, number, Did, cell, side, OtherSides, Defers, Recalls, FindsNone}
use Rattle.story.proofs.Made.{Made, defer_made, recall_made, flush_made}
use Rattle.story.proofs.Refusals.{kept}
use Rattle.story.proofs.Tables.{frame, unchanged_state}
use Rattle.story.proofs.Taking.{empty}

-- The side queue and the object that a call names.
abbrev queue : Call → ℕ
queue c = argument c 1

abbrev target : Call → ℕ
target c = argument c 2

-- ## The machine's states
-- a side queue that a command may name is there
within : (q : ℕ) (s : State) → Inv s → no_side q ≡ false → q < length s.sides
within q s i e = omega (arith, within-side q e, i.aside.sides_length)

module _ (s : State) (q : ℕ) (l : q < length s.sides) where
  refer-more : (b k : ℕ) → references (set_aside (Block b) q s) k ≡ references s k + one (eqb b k)
  unfolding references set_aside
  refer-more b k = omega (arith, occurrences-back s.sides q l (entry_of (Block b)) (entry_of (Block k)), same_entry b k)

  refer-fewer : length s.cells ≤ 255 → (k : ℕ) → references (Aside.flushed s q) k + times_in (entry_of (Block k)) (side_of s q) ≡ references s k
  unfolding references Aside.flushed
  refer-fewer m k = rw (let_go_each_lem (side_of s q) s m) (omega (arith, occurrences-emptied s.sides q l (entry_of (Block k))))

refer_same : (s : State) (q p : ℕ) → 0 < length (side_of s q) → p - 1 < length s.boxes → (k : ℕ) → references (Aside.recalled s q p) k ≡ references s k
unfolding references Aside.recalled
refer_same s q p some l k =
    let e = entry_of (Block k) in
    omega (arith, occurrences-front s.boxes (p - 1) l (oldest (side_of s q)) e, occurrences_took s.sides q some e)

-- ## DEFER
module _ (h : Story) (c : Call) (did : Did DEFER h c) where
  defers : Made (answer_in h c) (defer_tests (spoilt 1 c.command) (queue c) (kernel h))
      (answer (set_aside (kernel h).hand (queue c) (kernel h)) (done (length (side h (queue c)) + 1) 0) c.areas)
  defers = defer_made (kernel h) c.command c.chart c.areas did.1 did.0

  none_of : NoneHolds (defer_tests (spoilt 1 c.command) (queue c) (kernel h))
  unfolding defer_tests
  none_of = none_holds (defer_tests (spoilt 1 c.command) (queue c) (kernel h)) refl defers.none

  with_block : (b : ℕ) → (kernel h).hand ≡ Block b → queue c < length (kernel h).sides → Defers h c (queue c)
  unfolding kernel set_aside behind reply_of bytes
  with_block b e l =
      let is : kernel (then h c) ≡ set_aside (Block b) (queue c) (kernel h) = ap (λ a. a.state) defers.is ∙ ap (λ x. set_aside x (queue c) (kernel h)) e in
      let here : side (then h c) (queue c) ≡ behind (entry_of (Block b)) (side h (queue c)) = rw is (changed-here (behind (entry_of (Block b))) (kernel h).sides (queue c) l) in
      record {
        block = b;
        in_hand = e;
        still = rw is refl;
        last = here;
        others = λ k ne. rw is (changed_other (behind (entry_of (Block b))) (kernel h).sides (queue c) k ne);
        mail = rw is refl;
        more = λ k. rw is (refer-more (kernel h) (queue c) l b k);
        entries = ap (λ a. get_or a.reply 4 0) defers.is ∙ sym (ap length here ∙ behind-length (entry_of (Block b)) (side h (queue c)));
      }

pub deferred : Deferred
unfolding defer_tests
deferred h c did =
    let t = none_of h c did in
    let a = a_block (kernel h).hand (open_block (kernel h).hand (kept h).in_hand (not-false _ t.1.1.0) t.1.1.1.0) in
    with_block h c did a.block a.is (within (queue c) (kernel h) (kept h) t.1.0)

-- ## RECALL
-- the rest behind the oldest
oldest_and_rest : (l : List ℕ) → 0 < length l → l ≡ get_or l 0 0 ∷ rest l
unfolding rest
oldest_and_rest [] h = absurd (not-suc-le-zero h)
oldest_and_rest (x ∷ l) h = refl

module _ (h : Story) (c : Call) (did : Did RECALL h c) where
  recalls : Made (answer_in h c) (recall_tests (spoilt 2 c.command) (queue c) (target c) (kernel h)) (recall_done (length (side h (queue c))) (queue c) (target c) (kernel h) c.areas)
  recalls = recall_made (kernel h) c.command c.chart c.areas did.1 did.0

  by_length : (n : ℕ) → length (side h (queue c)) ≡ n → Recalls h c (queue c) (target c) ⊎ FindsNone h c (queue c)
  unfolding kernel recall_tests recall_done Aside.recalled ahead reply_of bytes
  by_length zero e =
      let is = rw e at recalls.is in
      inr (record { empty = empty (side h (queue c)) e; same = ap (λ a. a.state) is; none = ap (λ a. get_or a.reply 4 0) is })
  by_length (suc n) e =
      let s = kernel h in
      let is = rw e at recalls.is in
      let t = none_holds (recall_tests (spoilt 2 c.command) (queue c) (target c) s) refl recalls.none in
      let low = within_low 1 objects (target c) t.1.1.0 in
      let high = within_high 1 objects (target c) t.1.1.0 in
      let l = within (queue c) s (kept h) t.1.0 in
      let oldest = get_or (side h (queue c)) 0 0 in
      inl (record {
        oldest = oldest;
        left = oldest_and_rest (side h (queue c)) (omega arith) ∙ ap (λ (x : List ℕ). oldest ∷ x) (sym (ap (λ a. side_of a.state (queue c)) is ∙ changed-here rest s.sides (queue c) l));
        others = λ k ne. ap (λ a. side_of a.state k) is ∙ changed_other rest s.sides (queue c) k ne;
        front = ap (λ a. box_of a.state (target c)) is ∙ changed-here (ahead oldest) s.boxes (target c - 1) (omega (arith, (kept h).mail.boxes-length));
        other_mail = λ k m ne. ap (λ a. box_of a.state k) is ∙ changed_other (ahead oldest) s.boxes (target c - 1) (k - 1) (λ z. ne (omega arith));
        still = ap (λ a. a.state.hand) is;
        cells = ap (λ a. a.state.cells) is;
        same = λ k. ap (λ a. references a.state k) is ∙ refer_same s (queue c) (target c) (omega arith) (omega (arith, (kept h).mail.boxes-length)) k;
        moved = ap (λ a. get_or a.reply 4 0) is;
      })

pub recalled : Recalled
recalled h c did = by_length h c did (length (side h (queue c))) refl

-- ## FLUSH
pub flushed : Flushed
unfolding kernel flush_tests Aside.flushed bare reply_of bytes
flushed h c did =
    let s = kernel h in
    let q = queue c in
    let m = flush_made s c.command c.chart c.areas did.1 did.0 in
    let l = within q s (kept h) (none_holds (flush_tests (spoilt 1 c.command) q) refl m.none).1.0 in
    let few : length s.cells ≤ 255 = omega (arith, (kept h).store.cells-length) in
    let each = let_go_each_lem (side h q) s few in
    record {
      empty = ap (λ a. side_of a.state q) m.is ∙ changed-here bare s.sides q l;
      others = λ k ne. ap (λ a. side_of a.state k) m.is ∙ changed_other bare s.sides q k ne;
      mail = ap (λ a. a.state.boxes) m.is ∙ ap (λ x. x.boxes) each;
      events = ap (λ a. a.state.events) m.is ∙ ap (λ x. x.events) each;
      still = ap (λ a. a.state.hand) m.is ∙ ap (λ x. x.hand) each;
      fewer = λ k. rw (ap (λ a. references a.state k) m.is) (refer-fewer s q l few k);
      entries = ap (λ a. get_or a.reply 4 0) m.is;
    }

-- ## Nothing else
pub only_aside : OnlyAside
unfolding kernel
only_aside h c q moves =
    ⊎_elim (λ d.
    ⊎_elim (λ e. (named (deferred h c (e, d)).others, inl (e, d))) (λ n19.
    ⊎_elim (λ e. (named (⊎_elim (λ r. r.others) (λ r k ne. ap (λ s. side_of s k) r.same) (recalled h c (e, d))), inr (inl (e, d)))) (λ n20.
    ⊎_elim (λ e. (named (flushed h c (e, d)).others, inr (inr (e, d)))) (λ n21.
    absurd (moves (ap (λ (l : List (List ℕ)). box_at l q) ((frame h c).sides n19 n20 n21)))) (eq_or (command_of c) FLUSH)) (eq_or (command_of c) RECALL)) (eq_or (command_of c) DEFER))
    (λ n. absurd (moves (ap (λ s. side_of s q) (unchanged_state h c n))))
    (eq_or (number h c) 0)
  where
    -- where all but the side queue that it names stay, that is q
    named : OtherSides h c (queue c) → queue c ≡ q
    named stay = ⊎_elim (λ e. e) (λ ne. absurd (moves (stay q (λ e. ne (sym e))))) (eq_or (queue c) q)

-- ## What is set aside lives
pub kept_aside : KeptAside
unfolding references
kept_aside h q i l =
    let a = a_block (hand_of (get_or (side h q) i 0)) ((kept h).aside.entries q i l) in
    let here : 0 < occurrences (entry_of (Block a.block)) (kernel h).sides =
    rw (block_entry (get_or (side h q) i 0) a.block a.is) at (occurrences-has (kernel h).sides q i l) in
    record { block = a.block; this = a.is; is_one_of = a.within; live = live_counted (cell h a.block) (omega (arith, (kept h).counted a.block a.within)) }
