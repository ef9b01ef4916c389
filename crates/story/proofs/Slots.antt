-- Tables in which that of one slot was replaced: what each slot has then.
use mathlib.Core.Bool.{Bool, true, false}
use mathlib.Core.List.{List}
use mathlib.Core.Path.{◌≡◌, refl, sym, ◌∙◌}
use Prim.Native.Nat.{ℕ, ◌+◌, ◌*◌, ◌≤◌, ◌<◌}
use native.Mathlib.Decide.{dec_lt}
use native.Mathlib.Omega.{arith}
use borrow.Author.Tests.{eqb-true, eqb-false}
use lib.Dec.{eqb}
use lib.ListN.{length, take}
use lib.Seq.{take_all}
use Rattle.chart.specs.Numbers.{slot_size}
use Rattle.chart.specs.declared.read.Edition.TheVariants.{Plain, Guarded}
use Rattle.machine.specs.Charts.{slot_table, filled}
use Rattle.machine.specs.Numbers.{slots, guarded_slot, edition_of}
use Rattle.machine.specs.Reply.{BothTables}
use Rattle.story.proofs.Lent.{WholeFor}
use Rattle.story.proofs.Over.{over-length, over-here, over-before, over-behind}

-- The table of slot q.
abbrev pub table_in : BothTables → ℕ → List ℕ
table_in t q = take (slot_size (edition_of q)) (slot_table t q)

module _ (q : ℕ) (v : List ℕ) (t : BothTables) (is-slot : q < slots) (whole : WholeFor q t) (long : length v ≡ slot_size (edition_of q)) where
  -- on a plain slot
  module _ (e : eqb q guarded_slot ≡ false) where
    plain_long : length v ≡ slot_size Plain
    unfolding edition_of
    plain_long = rw e at long

    fits : slot_size Plain * q + length v ≤ length t.plain
    fits = let ne = eqb-false q guarded_slot e in omega (arith, plain_long, whole.plain)

  pub filled-here : table_in (filled q v t) q ≡ v
  unfolding slot_table filled edition_of
  filled-here = go (eqb q guarded_slot) refl
    where
      go : (b : Bool) → eqb q guarded_slot ≡ b → table_in (filled q v t) q ≡ v
      go true e = let n : length v ≡ slot_size Guarded = rw e at long in rw e (take_all (slot_size Guarded) v (omega arith))
      go false e = rw e (rw (plain_long e) at (over-here t.plain (slot_size Plain * q) v (fits e)))

  pub filled_other : (k : ℕ) → k < slots → (k ≡ q → ⊥) → table_in (filled q v t) k ≡ table_in t k
  unfolding slot_table filled edition_of
  filled_other k l ne = go (eqb q guarded_slot) refl (eqb k guarded_slot) refl
    where
      apart : (e : eqb q guarded_slot ≡ false) (f : eqb k guarded_slot ≡ false) → Dec (k < q) → table_in (filled q v t) k ≡ table_in t k
      apart e f (yes b) = rw (e, f) (over-before t.plain (slot_size Plain * q) v (fits e) (slot_size Plain * k) (slot_size Plain) (omega arith))
      apart e f (no b) = rw (e, f) (over-behind t.plain (slot_size Plain * q) v (fits e) (slot_size Plain * k) (slot_size Plain) (omega (arith, plain_long e)))

      go : (b : Bool) → eqb q guarded_slot ≡ b → (c : Bool) → eqb k guarded_slot ≡ c → table_in (filled q v t) k ≡ table_in t k
      go true e true f = absurd (ne (eqb-true k guarded_slot f ∙ sym (eqb-true q guarded_slot e)))
      go true e false f = rw (e, f) refl
      go false e true f = rw (e, f) refl
      go false e false f = apart e f (dec_lt k q)

  pub filled_plain : length (filled q v t).plain ≡ length t.plain
  unfolding filled
  filled_plain = go (eqb q guarded_slot) refl
    where
      go : (b : Bool) → eqb q guarded_slot ≡ b → length (filled q v t).plain ≡ length t.plain
      go true e = rw e refl
      go false e = rw e (over-length t.plain (slot_size Plain * q) v (fits e))

  pub filled_guarded : length (filled q v t).guarded ≡ length t.guarded
  unfolding filled edition_of
  filled_guarded = go (eqb q guarded_slot) refl
    where
      go : (b : Bool) → eqb q guarded_slot ≡ b → length (filled q v t).guarded ≡ length t.guarded
      go true e = rw e (rw e at long ∙ sym (whole.guarded (eqb-true q guarded_slot e)))
      go false e = rw e refl
