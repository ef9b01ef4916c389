-- NEW and READ: what it says that none of their tests holds, and what a take makes of the blocks.
use mathlib.Core.Bool.{Bool, false, not}
use mathlib.Core.List.{List, [], ◌∷◌}
use mathlib.Core.Path.{◌≡◌, refl, sym, ◌∙◌}
use Prim.Native.Nat.{ℕ, ◌+◌, ◌<◌, ◌≤◌}
use native.Mathlib.Omega.{arith}
use borrow.Author.Tests.{eqb-true, not-false}
use lib.Dec.{eqb, ltb}
use lib.ListN.{length, drop, length-drop}
use lib.Seq.{length-take-le}
use Rattle.ground.specs.Bools.{cond_all}
use Rattle.machine.proofs.Blocks.{payload-within}
use Rattle.machine.proofs.Counts.{live_handle}
use Rattle.machine.proofs.Last.{refused_sooner, refused-last}
use Rattle.machine.proofs.Tests.{none_holds, within_high, within_block}
use Rattle.machine.specs.Events.{none_found, new_tests, read_tests, payload_of}
use Rattle.machine.specs.Inv.{Inv}
use Rattle.machine.specs.Numbers.{blocks, most_bytes, payload_bytes, no_signal, no_size, capacity, place_of}
use Rattle.machine.specs.Reply.{FORM, AREA, RANGE, DRY, lowest}
use Rattle.machine.specs.State.{State, size_in}
use Rattle.std.proofs.Common.{Option, Some, None}
use Rattle.pool.specs.Cell.{Cell, generation_of, handed_out}
use Rattle.pool.specs.Laws.{changed-here, found-lowest, pool-end}
use Rattle.pool.specs.Mark.{marks_after}
use Rattle.pool.specs.Row.{changed, found, generation_at, pool_for, after_take}
use Rattle.pool.specs.Promise.{Takes}

-- NEW: what it says that none of its tests but the last holds.
abbrev pub new_list : Bool → List ℕ → ℕ → ℕ → Bool → List (ℕ × Bool)
new_list spoilt l g n none = (FORM, spoilt) ∷ (AREA, not (eqb (length l) payload_bytes)) ∷ (RANGE, no_signal g) ∷ (RANGE, no_size n) ∷ (DRY, none) ∷ []

pub new_allowed : (spoilt : Bool) (l : List ℕ) (g n : ℕ) → 0 ≡ lowest (new_list spoilt l g n false) → (n ≤ most_bytes) × (length l ≡ payload_bytes)
new_allowed spoilt l g n e =
    let h = none_holds (new_list spoilt l g n false) refl (sym e) in
    (within_high 0 most_bytes n h.1.1.1.0, eqb-true _ _ (not-false _ h.1.0))

-- the code's numbers x and y are the signal g and the size n
module _ (s : State) (spoilt : Bool) (l : List ℕ) (g n x y : ℕ) (e : x ≡ g) (d : y ≡ n) where
  -- a refusal before the last test
  pub new_refused : (m : ℕ) → (m ≡ 0 → ⊥) → m ≡ lowest (new_list spoilt l x y false) → m ≡ lowest (new_tests spoilt g n s l)
  unfolding new_tests
  new_refused m ne h =
      rw (← e, ← d)
      (refused_sooner DRY (none_found (found s.cells y)) ((FORM, spoilt) ∷ (AREA, not (eqb (length l) payload_bytes)) ∷ (RANGE, no_signal x) ∷ (RANGE, no_size y) ∷ []) m ne h)

  -- and the last one
  pub new-dry : 0 ≡ lowest (new_list spoilt l x y false) → found s.cells y ≡ None → DRY ≡ lowest (new_tests spoilt g n s l)
  unfolding new_tests none_found
  new-dry h f =
      rw (← e, ← d, f)
      (refused-last DRY ((FORM, spoilt) ∷ (AREA, not (eqb (length l) payload_bytes)) ∷ (RANGE, no_signal x) ∷ (RANGE, no_size y) ∷ []) refl h)

-- What a take makes of the row s and the marks m, from where it finds block b, and from where it finds none.
pub record Took (s : List Cell) (m : List ℕ) (n b : ℕ) (t : List Cell) (o : List ℕ) : Type 0 where
  pub found : found s n ≡ Some b
  pub block : b < blocks
  pub row : t ≡ changed handed_out s b
  pub marks : o ≡ marks_after s m (pool_for n) (Some b)
  pub generation : generation_at t b ≡ generation_at s b

pub took : (s : List Cell) (m : List ℕ) (n b : ℕ) (t : List Cell) (o : List ℕ) (f : Option ℕ) (k : ℕ) → length s ≡ blocks →
    Takes s m n t o f k → f ≡ Some b → Took s m n b t o
unfolding after_take generation_at generation_of handed_out
took s m n b t o f k long take e =
    let finds : found s n ≡ Some b = sym take.answer ∙ e in
    let inside : b < blocks = omega (arith, (found-lowest s (pool_for n) b finds).high, pool-end n) in
    let row : t ≡ changed handed_out s b = take.row ∙ rw finds refl in
    record {
      found = finds;
      block = inside;
      row = row;
      marks = take.marks ∙ rw finds refl;
      generation = rw (row, changed-here handed_out s b (omega arith)) refl;
    }

pub took_none : (s : List Cell) (m : List ℕ) (n : ℕ) (t : List Cell) (o : List ℕ) (f : Option ℕ) (k : ℕ) → Takes s m n t o f k → f ≡ None →
    (found s n ≡ None) × (t ≡ s) × (o ≡ m)
unfolding after_take marks_after
took_none s m n t o f k take e =
    let none : found s n ≡ None = sym take.answer ∙ e in
    (none, take.row ∙ rw none refl, take.marks ∙ rw none refl)

-- no block holds more than 64 bytes
capacity_most : (b : ℕ) → capacity b ≤ most_bytes
unfolding capacity
capacity_most b = cond_all (λ n. n ≤ most_bytes) (ltb b 32) (omega arith) (cond_all (λ n. n ≤ most_bytes) (ltb b 48) (omega arith) (omega arith))

-- READ: the block, where its payload ends, and the payload's length.
pub record Readable (s : State) (b : ℕ) (l : List ℕ) : Type 0 where
  pub block : b < blocks
  pub within : place_of b + size_in s b ≤ length l
  pub short : length (payload_of s b l) ≤ most_bytes

pub readable : (s : State) (spoilt : Bool) (b gen : ℕ) (l : List ℕ) → Inv s → 0 ≡ lowest (read_tests spoilt b gen s l) → Readable s b l
unfolding read_tests payload_of
readable s spoilt b gen l i e =
    let h = none_holds (read_tests spoilt b gen s l) refl (sym e) in
    let m : b < blocks = within_block b h.1.1.0 in
    let lives = live_handle s.cells b gen h.1.1.1.0 in
    let w : length l ≡ payload_bytes = eqb-true _ _ (not-false _ h.1.0) in
    let f : place_of b + size_in s b ≤ length l = omega (arith, payload-within s b i m lives) in
    record {
      block = m;
      within = f;
      short = rw (length-take-le (size_in s b) (drop (place_of b) l) (rw length-drop (omega arith))) (omega (arith, i.store.size b lives, capacity_most b));
    }
