-- Document 01, "Commands": charts and objects. LOAD, START; document 02, request 8: FLAG.
use Rattle.std.specs.Prelude.{Bool, true, false, cond, not, ◌&&◌, List, [], ◌∷◌, ℕ, zero, suc, ◌*◌, ◌-◌, eqb, length, set, drop}
use Rattle.bits.specs.Members.{put}
use Rattle.chart.specs.Chart.{class_of, states}
use Rattle.chart.specs.Flags.{all_down}
use Rattle.chart.specs.Flat.{answer_of, row_at, slot_bytes, start_sound}
use Rattle.chart.specs.Numbers.{slot_size}
use Rattle.chart.specs.declared.read.Edition.TheVariants.{Plain}
use Rattle.mail.specs.Box.{one}
use Rattle.machine.specs.Numbers.{objects, guarded_slot, edition_of, table_bytes, guarded_bytes, no_object, no_depth, no_slot, no_flag, no_value}
use Rattle.machine.specs.State.{State, started, slot_of, is_loaded, is_open, with_objects, with_loaded, with_flags_of}
use Rattle.machine.specs.Reply.{FORM, AREA, RANGE, BUSY, ABSENT, TAKEN, TABLE, done, ran, BothTables, Areas, Answer, answer, lowest, unless, unless_fault, with_tables, over}

abbrev pub tables_bad : BothTables → Bool
tables_bad tables = not (eqb (length tables.plain) table_bytes)

abbrev pub guarded_bad : BothTables → Bool
guarded_bad tables = not (eqb (length tables.guarded) guarded_bytes)

-- Slot q is the guarded one, and its table has another length.
abbrev pub slot_bad : ℕ → BothTables → Bool
slot_bad q tables = eqb q guarded_slot && guarded_bad tables

-- The table of slot q, from its first byte on; the tables with that of slot q replaced.
unfoldable pub slot_table : BothTables → ℕ → List ℕ
slot_table tables q = cond (eqb q guarded_slot) tables.guarded (drop (slot_size Plain * q) tables.plain)

unfoldable pub filled : ℕ → List ℕ → BothTables → BothTables
filled q t tables =
    cond (eqb q guarded_slot)
    (record { plain = tables.plain; guarded = t })
    (record { plain = over tables.plain (slot_size Plain * q) t; guarded = tables.guarded })

-- One of the first n objects uses the slot q.
unfoldable pub slot_used : State → ℕ → ℕ → Bool
slot_used s q zero = false
slot_used s q (suc n) = cond (started s (suc n) && eqb (slot_of s (suc n)) q) true (slot_used s q n)

-- 1 LOAD slot (with a chart): check by the slot's edition, fill the slot.
unfoldable pub load_tests : Bool → ℕ → State → BothTables → List (ℕ × Bool)
load_tests spoilt q s tables =
    (FORM, spoilt)
    ∷ (AREA, tables_bad tables)
    ∷ (AREA, slot_bad q tables)
    ∷ (RANGE, no_slot q)
    ∷ (BUSY, is_open s.hand)
    ∷ (TAKEN, slot_used s q objects)
    ∷ []

unfoldable pub load : Bool → ℕ → List ℕ → State → Areas → Answer
load spoilt q d s z =
    unless (lowest (load_tests spoilt q s z.tables)) s z
    (unless_fault (class_of (edition_of q) d) s z
    (answer (with_loaded (set s.loaded q 1) s) (done (states d) 0) (with_tables (filled q (slot_bytes (edition_of q) d) z.tables) z)))

-- 2 START p, slot, depth: read the start row; its next state is the rest, and all flags of p are down.
unfoldable pub start_row : BothTables → ℕ → List ℕ
start_row tables q = row_at (slot_table tables q) 0

unfoldable pub start_tests : Bool → ℕ → ℕ → ℕ → State → BothTables → List (ℕ × Bool)
start_tests spoilt p q depth s tables =
    (FORM, spoilt)
    ∷ (AREA, tables_bad tables)
    ∷ (AREA, slot_bad q tables)
    ∷ (RANGE, no_object p)
    ∷ (RANGE, no_slot q)
    ∷ (RANGE, no_depth depth)
    ∷ (BUSY, is_open s.hand)
    ∷ (ABSENT, not (is_loaded s q))
    ∷ (TAKEN, started s p)
    ∷ (TABLE, not (start_sound (edition_of q) (start_row tables q)))
    ∷ []

unfoldable pub started_at : State → ℕ → ℕ → ℕ → ℕ → State
started_at s p q depth rest =
    with_objects (record {
      depths = set s.objects.depths (p - 1) depth;
      rests = set s.objects.rests (p - 1) rest;
      seats = set s.objects.seats (p - 1) q;
    })
    (with_flags_of p all_down s)

unfoldable pub start : Bool → ℕ → ℕ → ℕ → State → Areas → Answer
start spoilt p q depth s z =
    let a = answer_of (start_row z.tables q) in
    unless (lowest (start_tests spoilt p q depth s z.tables)) s z (answer (started_at s p q depth a.next) (ran p 0 0 0 a) z)

-- 22 FLAG p, flag, 0 or 1 clears or sets one flag: 1 if it changed.
unfoldable pub flag_tests : Bool → ℕ → ℕ → ℕ → State → List (ℕ × Bool)
flag_tests spoilt p f v s =
    (FORM, spoilt)
    ∷ (RANGE, no_object p)
    ∷ (RANGE, no_flag f)
    ∷ (RANGE, no_value v)
    ∷ (BUSY, is_open s.hand)
    ∷ (ABSENT, not (started s p))
    ∷ []

unfoldable pub flag_changes : State → ℕ → ℕ → ℕ → Bool
flag_changes s p f v = cond (eqb v 1) (not (s.flags p f)) (s.flags p f)

unfoldable pub flag_set : State → ℕ → ℕ → ℕ → State
flag_set s p f v = with_flags_of p (put f (eqb v 1) (s.flags p)) s

unfoldable pub flag : Bool → ℕ → ℕ → ℕ → State → Areas → Answer
flag spoilt p f v s z = unless (lowest (flag_tests spoilt p f v s)) s z (answer (flag_set s p f v) (done (one (flag_changes s p f v)) 0) z)
