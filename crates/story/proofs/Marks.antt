-- How near each pool came to having no block left: what a call makes of a mark and of the free blocks, and the smallest number of these.
use mathlib.Core.List.{List}
use mathlib.Core.Logic.{◌⊎◌, inl, inr, ⊎_elim}
use mathlib.Core.Path.{◌≡◌, refl, sym, ap, subst, ◌∙◌}
use Prim.Native.Nat.{ℕ, zero, suc, ◌<◌, ◌≤◌, min}
use native.Mathlib.Omega.{arith, min_cases}
use lib.ListN.{length, get_or, length-set}
use lib.Seq.{get_or-set_same, get_or-set_other}
use Rattle.std.proofs.Common.{Some}
use Rattle.ground.specs.Bools.{eq_or}
use Rattle.machine.specs.Events.{new_event, new_in}
use Rattle.machine.specs.Machine.{payload}
use Rattle.machine.specs.Reply.{reply_of, bytes}
use Rattle.pool.specs.Cell.{handed_out}
use Rattle.pool.specs.Laws.{Lowest, changed_other, found_again}
use Rattle.pool.specs.Mark.{mark_of, mark_with, marks_after, pools}
use Rattle.pool.specs.Pools.{free_more, free_same, fresh_free, fresh-mark, pool_marked, same_number, same_pool}
use Rattle.pool.specs.Row.{changed, pool_for}
use Rattle.pool.specs.declared.Span.{Span}
use Rattle.story.specs.Calls.{Call, Story, fresh, then, kernel, answer_in}
use Rattle.story.specs.Demands.{Marked, MarkShown, OnlyTaking}
use Rattle.story.specs.Table.{NEW}
use Rattle.story.specs.Terms.{argument, command_of, number, event, Did, free_blocks, mark, earlier, Smallest}
use Rattle.story.proofs.Cells.{moves_free}
use Rattle.story.proofs.Counting.{handed}
use Rattle.story.proofs.Lasting.{turned}
use Rattle.story.proofs.Made.{new_made}
use Rattle.story.proofs.Tables.{frame, unchanged_state}

-- ## A call that is no NEW, or is refused: no mark moves, and every free block stays free
module _ (h : Story) (c : Call) (other : Did NEW h c → ⊥) where
  pub marks_stay : (kernel (then h c)).marks ≡ (kernel h).marks
  unfolding kernel
  marks_stay =
      ⊎_elim (λ d. (frame h c).marks (λ e. other (e, d))) (λ n. ap (λ s. s.marks) (unchanged_state h c n)) (eq_or (number h c) 0)

  none_taken : (size : ℕ) → free_blocks h (pool_for size) ≤ free_blocks (then h c) (pool_for size)
  none_taken size = free_more (pool_for size) _ _ (λ b l g f. ⊎_elim (λ e. e) (λ w. absurd (other w.0)) (moves_free _ _ _ _ (turned h c b) f))

-- ## A NEW that is done
module _ (h : Story) (c : Call) (did : Did NEW h c) where
  abbrev taken : ℕ
  taken = event h c

  abbrev its : Span
  its = pool_for (argument c 2)

  lowest : Lowest (kernel h).cells its taken
  lowest = (handed h c did).0

  is : answer_in h c ≡ new_in (Some taken) (argument c 1) (argument c 2) (payload c.command) (kernel h) c.areas
  is =
      (new_made (kernel h) c.command c.chart c.areas did.1 did.0).is
      ∙ ap (λ f. new_in f (argument c 1) (argument c 2) (payload c.command) (kernel h) c.areas) (found_again (kernel h).cells its taken lowest)

  cells_are : (kernel (then h c)).cells ≡ changed handed_out (kernel h).cells taken
  unfolding kernel new_in new_event
  cells_are = ap (λ a. a.state.cells) is

  marks_are : (kernel (then h c)).marks ≡ marks_after (kernel h).cells (kernel h).marks its (Some taken)
  unfolding kernel new_in new_event
  marks_are = ap (λ a. a.state.marks) is

pub mark_shown : MarkShown
unfolding kernel new_in new_event reply_of bytes
mark_shown h c did = ap (λ a. get_or a.reply 3 0) (is h c did) ∙ sym (ap (λ a. mark_of a.state.marks (its h c did)) (is h c did))

new_or_other : (h : Story) (c : Call) → Did NEW h c ⊎ (Did NEW h c → ⊥)
new_or_other h c = ⊎_elim (λ e. ⊎_elim (λ d. inl (e, d)) (λ n. inr (λ did. n did.1)) (eq_or (number h c) 0)) (λ n. inr (λ did. n did.0)) (eq_or (command_of c) NEW)

marks-length : (h : Story) → length (kernel h).marks ≡ pools
marks-length fresh = unfold kernel in refl
marks-length (then h c) =
    ⊎_elim (λ did. ap length (marks_are h c did) ∙ after did) (λ other. ap length (marks_stay h c other)) (new_or_other h c) ∙ marks-length h
  where
    after : (did : Did NEW h c) → length (marks_after (kernel h).cells (kernel h).marks (its h c did) (Some (taken h c did))) ≡ length (kernel h).marks
    after did = unfold marks_after in length-set (kernel h).marks (its h c did).number _

-- what it makes of the mark of its own pool, and of another
module _ (h : Story) (c : Call) (did : Did NEW h c) where
  marked_own : mark (then h c) (its h c did) ≡ min (free_blocks (then h c) (its h c did)) (mark h (its h c did))
  unfolding marks_after mark_with
  marked_own =
      let w = lowest h c did in
      let has-mark : (its h c did).number < length (kernel h).marks = omega (arith, pool_marked (argument c 2) (omega (arith, w.low, w.high)), marks-length h) in
      rw (marks_are h c did, cells_are h c did) (get_or-set_same (kernel h).marks (its h c did).number _ 0 has-mark)

  module _ (size : ℕ) (ne : (pool_for size).number ≡ (its h c did).number → ⊥) where
    marked_other : mark (then h c) (pool_for size) ≡ mark h (pool_for size)
    unfolding marks_after
    marked_other = rw (marks_are h c did) (get_or-set_other (kernel h).marks (its h c did).number (pool_for size).number _ 0 ne)

    free_other : free_blocks h (pool_for size) ≡ free_blocks (then h c) (pool_for size)
    free_other =
        let w = lowest h c did in
        free_same (pool_for size) _ _ (λ b l g. sym (rw (cells_are h c did) (changed_other handed_out (kernel h).cells (taken h c did) b (λ e.
        ne (same_number size (argument c 2) b l g (omega (arith, w.low)) (omega (arith, w.high)))))))

pub only_taking : OnlyTaking
only_taking h c size moves =
    ⊎_elim
    (λ did. (did, ⊎_elim (λ e. same_pool (argument c 2) size (sym e)) (λ ne. absurd (moves (marked_other h c did size ne))) (eq_or (pool_for size).number (its h c did).number)))
    (λ other. absurd (moves (ap (λ (m : List ℕ). mark_of m (pool_for size)) (marks_stay h c other))))
    (new_or_other h c)

-- ## Over any story
-- what a call leaves as the mark: the number of free blocks now, if that is lower, or the mark as it was, if that is not
abbrev Follows : Story → Call → Span → Type 0
Follows h c pool = let m = mark (then h c) pool in
    ((m ≡ free_blocks (then h c) pool) × (m ≤ mark h pool)) ⊎ ((m ≡ mark h pool) × (m ≤ free_blocks (then h c) pool))

smaller_of : (a b m : ℕ) → m ≡ min a b → ((m ≡ a) × (m ≤ b)) ⊎ ((m ≡ b) × (m ≤ a))
smaller_of a b m e = min_cases a b _ (λ l f. inl (e ∙ f, omega arith)) (λ l f. inr (e ∙ f, omega arith))

follows : (h : Story) (c : Call) (size : ℕ) → mark h (pool_for size) ≤ free_blocks h (pool_for size) → Follows h c (pool_for size)
follows h c size within =
    ⊎_elim (λ did.
    ⊎_elim
    (λ e. subst (Follows h c) (same_pool (argument c 2) size (sym e)) (smaller_of _ _ _ (marked_own h c did)))
    (λ ne. inr (marked_other h c did size ne, omega (arith, marked_other h c did size ne, free_other h c did size ne)))
    (eq_or (pool_for size).number (its h c did).number))
    (λ other.
    let e : mark (then h c) (pool_for size) ≡ mark h (pool_for size) = ap (λ (m : List ℕ). mark_of m (pool_for size)) (marks_stay h c other) in
    inr (e, omega (arith, none_taken h c other size)))
    (new_or_other h c)

module _ (h : Story) (c : Call) (size : ℕ) (w : Smallest h (pool_for size) (mark h (pool_for size))) where
  least_after : (m : ℕ) → m ≤ mark h (pool_for size) → m ≤ free_blocks (then h c) (pool_for size) → (k : ℕ) → m ≤ free_blocks (earlier k (then h c)) (pool_for size)
  unfolding earlier
  least_after m l g zero = g
  least_after m l g (suc k) = omega (arith, w.least k)

  smallest_then : Smallest (then h c) (pool_for size) (mark (then h c) (pool_for size))
  unfolding earlier
  smallest_then =
      ⊎_elim
      (λ f. record { point = 0; had = sym f.0; least = least_after _ f.1 (omega (arith, f.0)) })
      (λ f. record { point = suc w.point; had = w.had ∙ sym f.0; least = least_after _ (omega (arith, f.0)) f.1 })
      (follows h c size (w.least 0))

smallest_fresh : (size : ℕ) → Smallest fresh (pool_for size) (mark fresh (pool_for size))
unfolding kernel earlier
smallest_fresh size = record { point = 0; had = all_free; least = λ k. rw (still_fresh k) (omega (arith, all_free)) }
  where
    all_free : free_blocks fresh (pool_for size) ≡ mark fresh (pool_for size)
    all_free = fresh_free size ∙ sym (fresh-mark size)

    still_fresh : (k : ℕ) → earlier k fresh ≡ fresh
    still_fresh zero = refl
    still_fresh (suc k) = refl

smallest : (h : Story) (size : ℕ) → Smallest h (pool_for size) (mark h (pool_for size))
smallest fresh size = smallest_fresh size
smallest (then h c) size = smallest_then h c size (smallest h size)

pub marked : Marked
unfolding kernel
marked h size = (smallest h size, fresh-mark size)
