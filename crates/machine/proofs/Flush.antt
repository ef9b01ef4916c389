-- FLUSH lets go of the blocks of its entries, and of nothing else: each is counted so many times less as it stood there.
use mathlib.Core.List.{List, [], ◌∷◌}
use mathlib.Core.Path.{◌≡◌, refl}
use Prim.Native.Nat.{ℕ, suc, ◌+◌, ◌≤◌, ◌<◌}
use native.Mathlib.Omega.{arith}
use lib.Dec.{eqb}
use lib.ListN.{length}
use Rattle.ground.specs.Range.{tab_from}
use Rattle.ground.specs.Tab.{tab-cons}
use Rattle.mail.specs.Box.{one, times_in}
use Rattle.mail.specs.Entry.{entry_of, hand_of}
use Rattle.mail.specs.Laws.{OfEach, block_entry}
use Rattle.mail.specs.declared.Hand.{Hand}
use Rattle.mail.specs.declared.Hand.TheVariants.{Nothing, Block, Timer}
use Rattle.pool.specs.Cell.{Cell, fewer}
use Rattle.pool.specs.Laws.{changed-length}
use Rattle.pool.specs.Row.{blocks, changed, gone_all}
use Rattle.machine.proofs.Counts.{Counted, counted-fewer, fewer_none, same_entry}
use Rattle.machine.proofs.Drain.{let_go_is}
use Rattle.machine.proofs.Parts.{store_changed}
use Rattle.machine.specs.Aside.{let_go_each}
use Rattle.machine.specs.Inv.{IsBlock, StoreOk}
use Rattle.machine.specs.Run.{block_of, blocks_in}
use Rattle.machine.specs.State.{State, Events, with_cells}

-- the first of the blocks, and the others
blocks-cons : (e : ℕ) (l : List ℕ) → blocks_in (e ∷ l) ≡ block_of (hand_of e) ∷ blocks_in l
blocks-cons e l = tab-cons _ (length l)

-- all entries are let go at once
pub let_go_each_lem : (l : List ℕ) (s : State) → length s.cells ≤ 255 → let_go_each l s ≡ with_cells (gone_all s.cells (blocks_in l)) s
unfolding let_go_each gone_all tab_from
let_go_each_lem [] s m = refl
let_go_each_lem (e ∷ l) s m =
    let x = block_of (hand_of e) in
    rw (let_go_is (hand_of e) s m, blocks-cons e l)
    (let_go_each_lem l (with_cells (changed fewer s.cells x) s) (omega (arith, changed-length fewer s.cells x)))

-- The block that an event is.
pub record ABlock (h : Hand) : Type 0 where
  pub block : ℕ
  pub is : h ≡ Block block
  pub within : block < blocks

pub a_block : (h : Hand) → IsBlock h → ABlock h
unfolding IsBlock
a_block Nothing is = absurd is
a_block (Block b) is = record { block = b; is = refl; within = is }
a_block (Timer t g) is = absurd is

first_times : (x b k : ℕ) → hand_of x ≡ Block b → one (eqb x (entry_of (Block k))) ≡ one (eqb b k)
first_times x b k is = rw (block_entry x b is) (same_entry b k)

-- The blocks of a list of entries that all are blocks, once it is let go.
pub record LetGo (cells : List Cell) (e : Events) (t : ℕ → ℕ) : Type 0 where
  pub store : StoreOk cells e
  pub counted : Counted cells t

module _ (e : Events) (t : ℕ → ℕ) where
  pub gone_counted : (l : List ℕ) (cells : List Cell) (r : ℕ → ℕ) → OfEach (λ x. IsBlock (hand_of x)) l → StoreOk cells e → Counted cells r →
      ((k : ℕ) → k < blocks → t k + times_in (entry_of (Block k)) l ≡ r k) → LetGo (gone_all cells (blocks_in l)) e t
  unfolding gone_all times_in tab_from block_of
  gone_counted [] cells r all ok c loss = record { store = ok; counted = λ k h. omega (arith, c k h, loss k h) }
  gone_counted (x ∷ l) cells r all ok c loss =
      let first = a_block (hand_of x) (all 0 (omega arith)) in
      let b = first.block in
      let left : ℕ → ℕ = λ k. t k + times_in (entry_of (Block k)) l in
      rw (blocks-cons x l, first.is)
      (gone_counted l (changed fewer cells b) left (λ i m. all (suc i) (omega arith))
      (store_changed cells e b ok first.within fewer fewer_none)
      (counted-fewer cells r left b ok.cells-length first.within c (λ k m. omega (arith, loss k m, first_times x b k first.is)))
      (λ k m. refl))
