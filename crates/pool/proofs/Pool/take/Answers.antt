use borrow.Author.Rules.{rules}
use mathlib.Core.List.{List}
use mathlib.Core.Path.{◌≡◌, refl, sym, ◌∙◌}
use Prim.Native.Nat.{ℕ, ◌-◌, ◌<◌, ◌≤◌, min}
use native.Mathlib.Omega.{arith}
use lib.ListN.{length, set}
use lib.Seq.{get_or-set_same}
use Rattle.std.proofs.Common.{Some, None}
use Rattle.bits.specs.Members.{members}
use Rattle.ground.specs.Search.{first_is}
use Rattle.pool.specs.Cell.{Cell, handed_out}
use Rattle.pool.specs.Inside.{cells, marks}
use Rattle.pool.specs.Laws.{found_some, found_none, pool-end}
use Rattle.pool.specs.Mark.{free_in, mark_of, mark_with, marks_after, pools}
use Rattle.pool.specs.Pools.{pool_marked}
use Rattle.pool.specs.Promise.{Takes}
use Rattle.pool.specs.Row.{blocks, changed, pool_for, lowest_free, after_take, found_in}
use Rattle.pool.specs.declared.Span.{Span}
use Rattle.pool.proofs.Count.{handed_out_lem}
use Rattle.pool.proofs.Store.{free_in_lem, lowest_free_lem, stored-taken}
use Rattle.pool.proofs.Pool.take.Goals as goal
use Rattle.pool.proofs.Pool.take.Goals.{Else-to-b}

ends : (size : ℕ) (pool : Span) → pool ≡ pool_for size → pool.to ≤ blocks
ends size pool e = rw e (pool-end size)

marked : (size : ℕ) (pool : Span) → pool ≡ pool_for size → pool.from < pool.to → pool.number < pools
marked size pool e = rw e (pool_marked size)

module _ (s : List Cell) (m : List ℕ) (size : ℕ) (pool : Span) (b : ℕ) (e : pool ≡ pool_for size) (l : b ≡ lowest_free s pool) where
  takes_none : (mark : ℕ) → mark ≡ mark_of m pool → pool.to ≤ b → Takes s m size s m None mark
  unfolding after_take marks_after
  takes_none mark k h =
      let f : found_in s (pool_for size) ≡ None = rw (← e) (found_none s pool (omega arith)) in
      record { answer = sym f; row = rw f refl; marks = rw f refl; mark = rw (← e) k }

  -- left are free once the row is t, of the pool whose mark was `was`
  takes-some : (t : List Cell) (left was mark : ℕ) → b < pool.to → t ≡ changed handed_out s b → left ≡ free_in t pool → was ≡ mark_of m pool →
      mark ≡ min left was → length m ≡ pools → pool.number < pools → Takes s m size t (set m pool.number mark) (Some b) mark
  unfolding after_take marks_after mark_with
  takes-some t left was mark h r c w k long g =
      let f : found_in s (pool_for size) ≡ Some b = rw (← e, l) (found_some s pool (omega arith)) in
      record {
        answer = sym f;
        row = rw f r;
        marks = rw (f, ← e, ← r, ← c, ← w, ← k) refl;
        mark = rw (← e) (sym (get_or-set_same m pool.number mark 0 (omega arith)));
      }

-- a block that is found is one of the pool's
in_pool : (c : Else-to-b) → c.lowest-b.result < blocks
in_pool c = let h = ends _ _ c.pool_for-number.ensures in omega arith

-- and its pool has a mark
has_mark : (c : Else-to-b) → c.pool_for-number.result.number < pools
has_mark c =
    let pool = c.pool_for-number.result in
    let low = (first_is (members c.args.self.now.free) pool.from (pool.to - pool.from)).low in
    marked _ _ c.pool_for-number.ensures (omega (arith, low, c.lowest-b.ensures, c.if-to-b.false))

pub lowest-b-requires : goal.lowest-b-requires
lowest-b-requires c = let h = ends _ _ c.pool_for-number.ensures in omega arith

pub returns-then-to-b : goal.returns-then-to-b
unfolding cells marks
returns-then-to-b c =
    let pool = c.pool_for-number.ensures in
    let mark : c.unwrap_or.result ≡ mark_of c.args.self.now.marks c.pool_for-number.result = search rules in
    takes_none _ _ _ _ _ pool (c.lowest-b.ensures ∙ lowest_free_lem _ _ _ _ (ends _ _ pool)) _ mark c.if-to-b.true

pub offset_bounds-self-b : goal.offset_bounds-self-b
offset_bounds-self-b c = let h = in_pool (goal.at.offset_bounds-self-b c).Else-to-b in omega arith

pub bounds-self-b : goal.bounds-self-b
bounds-self-b c = let h = in_pool (goal.at.bounds-self-b c).Else-to-b in omega arith

pub without-self-requires : goal.without-self-requires
without-self-requires c = let h = in_pool (goal.at.without-self-requires c).Else-to-b in omega arith

pub count-left-requires : goal.count-left-requires
count-left-requires c = let h = ends _ _ c.pool_for-number.ensures in omega arith

pub bounds-self-number : goal.bounds-self-number
bounds-self-number c = let h = has_mark (goal.at.bounds-self-number c).Else-to-b in omega arith

pub bounds-self-number-2 : goal.bounds-self-number-2
bounds-self-number-2 c = let h = has_mark (goal.at.bounds-self-number-2 c).Else-to-b in omega arith

pub returns : goal.returns
unfolding cells marks
returns c =
    let found = (goal.at.returns c).Else-to-b in
    let pool = c.pool_for-number.ensures in
    let mark : c.min-mark.result ≡ min c.count-left.result c.from.result = c.min-mark.ensures in
    takes-some _ _ _ _ _ pool (c.lowest-b.ensures ∙ lowest_free_lem _ _ _ _ (ends _ _ pool)) _ _ _ _ c.if-to-b.false
    (rw c.without-self.ensures (stored-taken _ _ _ _ handed_out (in_pool found) refl refl _ _ (search rules) (handed_out_lem _ _ _)))
    (c.count-left.ensures ∙ free_in_lem _ _ _ _ (ends _ _ pool)) c.from.ensures mark (search rules) (has_mark found)
