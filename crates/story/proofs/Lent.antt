-- What a call is lent: its tables with their lengths, and, where nobody but the kernel writes to an area, the bytes that were left in it.
use mathlib.Core.Bool.{Bool, true, false}
use mathlib.Core.List.{List}
use mathlib.Core.Path.{◌≡◌, refl, sym, ap, ◌∙◌}
use Prim.Native.Nat.{ℕ, ◌*◌}
use borrow.Author.Tests.{eqb-true, eq-eqb, not-false}
use lib.Dec.{eqb}
use lib.ListN.{length, drop}
use Rattle.ground.specs.Bools.{cond_pick}
use Rattle.chart.specs.Numbers.{slot_size}
use Rattle.chart.specs.declared.read.Edition.TheVariants.{Plain}
use Rattle.machine.specs.Charts.{tables_bad, slot_bad, slot_table, filled}
use Rattle.machine.specs.Numbers.{guarded_slot, table_bytes, guarded_bytes}
use Rattle.machine.specs.Reply.{BothTables, over}
use Rattle.story.specs.Calls.{Call, Story, then, answer_in, Area, table_area, guarded_area, left, OnlyKernel, left_tables, OnlyKernelTables}

-- ## The lengths of the tables
-- They have their lengths as far as a command needs that uses slot q; both have.
pub record WholeFor (q : ℕ) (t : BothTables) : Type 0 where
  pub plain : length t.plain ≡ table_bytes
  pub guarded : q ≡ guarded_slot → length t.guarded ≡ guarded_bytes

pub record Whole (t : BothTables) : Type 0 where
  pub plain : length t.plain ≡ table_bytes
  pub guarded : length t.guarded ≡ guarded_bytes

pub whole_for : (q : ℕ) (t : BothTables) → tables_bad t ≡ false → slot_bad q t ≡ false → WholeFor q t
whole_for q t a b = record { plain = eqb-true _ table_bytes (not-false _ a); guarded = λ e. eqb-true _ guarded_bytes (not-false _ (rw (eq-eqb q guarded_slot e) at b)) }

pub not_bad : (q : ℕ) (t : BothTables) → WholeFor q t → slot_bad q t ≡ false
not_bad q t w = go (eqb q guarded_slot) refl
  where
    go : (b : Bool) → eqb q guarded_slot ≡ b → slot_bad q t ≡ false
    go true e = rw (e, eq-eqb (length t.guarded) guarded_bytes (w.guarded (eqb-true q guarded_slot e))) refl
    go false e = rw e refl

-- ## An area that only the kernel writes to
module _ (a : Area) (first : List ℕ) (h : Story) (c : Call) (only : OnlyKernel a first (then h c)) where
  pub lent : length (a.of c.areas) ≡ a.size → a.of c.areas ≡ left a first h
  unfolding OnlyKernel
  lent e = only.1 e

  -- a call that leaves it as it was
  pub left_same : a.of (answer_in h c).areas ≡ a.of c.areas → left a first (then h c) ≡ left a first h
  unfolding left
  left_same e =
      cond_pick (λ (x : List ℕ). x ≡ left a first h) (eqb (length (a.of c.areas)) a.size) _ _ (λ t. e ∙ lent (eqb-true _ a.size t)) (λ t. refl)

  -- a call that has it with its length
  pub left_whole : length (a.of c.areas) ≡ a.size → left a first (then h c) ≡ a.of (answer_in h c).areas
  unfolding left
  left_whole e = rw (eq-eqb (length (a.of c.areas)) a.size e) refl

pub before : (a : Area) (first : List ℕ) (h : Story) (c : Call) → OnlyKernel a first (then h c) → OnlyKernel a first h
unfolding OnlyKernel
before a first h c only = only.0

-- ## The tables
both-tables : {a b c d : List ℕ} → a ≡ c → b ≡ d → ◌≡◌ {A = BothTables} (record { plain = a; guarded = b }) (record { plain = c; guarded = d })
both-tables e f = rw (e, f) refl

module _ (first : BothTables) (h : Story) (c : Call) (only : OnlyKernelTables first (then h c)) where
  pub tables-before : OnlyKernelTables first h
  tables-before = (before table_area first.plain h c only.0, before guarded_area first.guarded h c only.1)

  pub tables-lent : Whole c.areas.tables → c.areas.tables ≡ left_tables first h
  tables-lent w = both-tables (lent table_area first.plain h c only.0 w.plain) (lent guarded_area first.guarded h c only.1 w.guarded)

  -- the table of the slot that it uses
  pub slot_lent : (q : ℕ) → WholeFor q c.areas.tables → slot_table c.areas.tables q ≡ slot_table (left_tables first h) q
  unfolding slot_table
  slot_lent q w = go (eqb q guarded_slot) refl
    where
      go : (t : Bool) → eqb q guarded_slot ≡ t → slot_table c.areas.tables q ≡ slot_table (left_tables first h) q
      go true e = rw e (lent guarded_area first.guarded h c only.1 (w.guarded (eqb-true q guarded_slot e)))
      go false e = rw e (ap (drop (slot_size Plain * q)) (lent table_area first.plain h c only.0 w.plain))

  -- a call that leaves them as they were
  pub tables_same : (answer_in h c).areas.tables ≡ c.areas.tables → left_tables first (then h c) ≡ left_tables first h
  tables_same e =
      both-tables (left_same table_area first.plain h c only.0 (ap (λ t. t.plain) e)) (left_same guarded_area first.guarded h c only.1 (ap (λ t. t.guarded) e))

  -- a call that replaces the table of the slot that it uses
  module _ (q : ℕ) (w : WholeFor q c.areas.tables) where
    pub left_whole_for : WholeFor q (left_tables first h)
    left_whole_for = record {
      plain = sym (ap length (lent table_area first.plain h c only.0 w.plain)) ∙ w.plain;
      guarded = λ e. sym (ap length (lent guarded_area first.guarded h c only.1 (w.guarded e))) ∙ w.guarded e;
    }

    pub tables-filled : (v : List ℕ) → (answer_in h c).areas.tables ≡ filled q v c.areas.tables → left_tables first (then h c) ≡ filled q v (left_tables first h)
    unfolding filled
    tables-filled v is = go (eqb q guarded_slot) refl
      where
        go : (t : Bool) → eqb q guarded_slot ≡ t → left_tables first (then h c) ≡ filled q v (left_tables first h)
        go true e =
            let now = rw e at is in
            let plain = lent table_area first.plain h c only.0 w.plain in
            rw e (both-tables
            (left_whole table_area first.plain h c only.0 w.plain ∙ ap (λ t. t.plain) now ∙ plain)
            (left_whole guarded_area first.guarded h c only.1 (w.guarded (eqb-true q guarded_slot e)) ∙ ap (λ t. t.guarded) now))
        go false e =
            let now = rw e at is in
            let plain = lent table_area first.plain h c only.0 w.plain in
            rw e (both-tables
            (left_whole table_area first.plain h c only.0 w.plain ∙ ap (λ t. t.plain) now ∙ ap (λ (l : List ℕ). over l (slot_size Plain * q) v) plain)
            (left_same guarded_area first.guarded h c only.1 (ap (λ t. t.guarded) now)))
