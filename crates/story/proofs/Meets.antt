-- The run of Examples.antt meets the hypotheses of the theorems.
use mathlib.Core.Bool.{true, false}
use mathlib.Core.List.{List, ◌∷◌}
use mathlib.Core.Logic.{inl}
use mathlib.Core.Path.{◌≡◌, refl, sym, ap, ◌∙◌}
use Prim.Native.Nat.{ℕ, ◌+◌, ◌≤◌}
use native.Mathlib.Omega.{arith}
use lib.ListN.{length, get_or, take, replicate, length-replicate}
use Rattle.ground.specs.Bytes.{padded}
use Rattle.chart.specs.Chart.{class_of}
use Rattle.chart.specs.Shift.{shift_stated}
use Rattle.chart.specs.declared.read.Edition.TheVariants.{Plain}
use Rattle.pool.specs.Cell.{is_free}
use Rattle.pool.specs.Row.{pool_for}
use Rattle.machine.specs.Charts.{slot_used}
use Rattle.machine.specs.Inv.{is_live}
use Rattle.machine.specs.Numbers.{objects, guarded_slot, table_bytes, guarded_bytes}
use Rattle.machine.specs.Reply.{STALE, TABLE}
use Rattle.machine.specs.State.{rest_of, started, is_open}
use Rattle.story.specs.Calls.{Call, Story, fresh, then, kernel, payload_area, left, OnlyKernel, OnlyKernelTables}
use Rattle.story.specs.Table.{LOAD, START, NEW, NEXT, READ, DRAIN, DEFER, RECALL, FLUSH, FLAG, one_of}
use Rattle.story.specs.Terms.{argument, number, object, value₁, value₂, event, generation, Did, cell, LastGoes, NewGoes, GoesOn, Names, mark, side}
use Rattle.story.proofs.Aside.{deferred}
use Rattle.story.proofs.Examples.{told, zeros, no_tables, asks, expected, honestly, told_payloads, told-tables, story_of, call_of, calls, byte_at, generation-at, after, cell-after, refer-after, rest-after, on-after, before_at}
use Rattle.story.proofs.Marks.{marks_stay, mark_shown}

-- what `Loads` asks for, of slot 0
record Loadable (h : Story) (c : Call) : Type 0 where
  form : c.command ≡ LOAD ∷ 0 ∷ replicate 70 0
  accepted : class_of Plain c.chart ≡ 0
  plain : length c.areas.tables.plain ≡ table_bytes
  guarded : length c.areas.tables.guarded ≡ guarded_bytes
  closed : is_open (kernel h).hand ≡ false
  unused : slot_used (kernel h) 0 objects ≡ false

loadable : Loadable (story_of 0) (call_of 0)
unfolding asks padded told kernel left slot_used is_open
loadable = record { form = refl; accepted = shift_stated.good; plain = length-replicate {A = ℕ} table_bytes 0; guarded = length-replicate {A = ℕ} guarded_bytes 0; closed = refl; unused = refl }

-- what is set aside after the first DEFER: as many as it answers
set_aside_lem : length (side (story_of 19) 0) ≡ 1
unfolding asks expected padded
set_aside_lem =
    ap (λ h. length (side h 0)) (after 18 (omega arith))
    ∙ sym (deferred (story_of 18) (call_of 18) (refl, byte_at 18 (omega arith) 0)).entries
    ∙ byte_at 18 (omega arith) 4

-- the mark of the pool of the smallest blocks: its size as long as there was no NEW, and what the first NEW answers
mark-before : mark (story_of 2) (pool_for 1) ≡ 32
unfolding asks padded told kernel pool_for
mark-before = ap (λ (m : List ℕ). get_or m 0 0) (
    ap (λ h. (kernel h).marks) (after 1 (omega arith))
    ∙ marks_stay (story_of 1) (call_of 1) (λ did. absurd (omega (arith, did.0)))
    ∙ ap (λ h. (kernel h).marks) (after 0 (omega arith))
    ∙ marks_stay (story_of 0) (call_of 0) (λ did. absurd (omega (arith, did.0))))

mark-after : mark (story_of 3) (pool_for 1) ≡ 31
unfolding asks expected padded
mark-after =
    ap (λ h. mark h (pool_for 1)) (after 2 (omega arith))
    ∙ sym (mark_shown (story_of 2) (call_of 2) (refl, byte_at 2 (omega arith) 0))
    ∙ byte_at 2 (omega arith) 3

record Meets : Type 0 where
  -- of the commands that the theorems speak of, each done
  loads : Did LOAD (story_of 0) (call_of 0)
  starts : Did START (story_of 1) (call_of 1)
  news : Did NEW (story_of 2) (call_of 2)
  nexts : Did NEXT (story_of 5) (call_of 5)
  reads : Did READ (story_of 7) (call_of 7)
  drains : Did DRAIN (story_of 12) (call_of 12)
  loadable : Loadable (story_of 0) (call_of 0)
  -- NEW hands out a free block
  handed : (is_free (cell (story_of 2) 0) ≡ true) × (is_live (cell (story_of 3) 0) ≡ true)
  -- and moves the mark of its pool
  nears : (mark (story_of 2) (pool_for 1) ≡ 32) × (mark (story_of 3) (pool_for 1) ≡ 31)
  -- NEXT moves object 9, which is started, from state 2 to state 4
  runs : started (kernel (story_of 2)) 9 ≡ true
  moves : (rest_of (kernel (story_of 5)) 9 ≡ 2) × (rest_of (kernel (story_of 6)) 9 ≡ 4)
  -- DRAIN takes a step
  step : value₁ (story_of 12) (call_of 12) ≡ 1
  -- a refusal
  refuses : number (story_of 9) (call_of 9) ≡ STALE
  -- the last reference of a live block goes by RELEASE, and it is handed out again, one generation on
  held : is_live (cell (story_of 8) 0) ≡ true
  last : LastGoes (story_of 8) (call_of 8) 0
  again : (event (story_of 10) (call_of 10) ≡ 0) × (generation (story_of 10) (call_of 10) ≡ 1)
  -- the story goes on from the first NEW, also to where its block is no longer live and then handed out again; a call names the old handle
  first : (event (story_of 2) (call_of 2) ≡ 0) × (generation (story_of 2) (call_of 2) ≡ 0)
  goes : (k : ℕ) → 3 + k ≤ calls → GoesOn (then (story_of 2) (call_of 2)) (story_of (3 + k))
  back : is_live (cell (story_of 9) 0) ≡ false
  on : GoesOn (story_of 9) (story_of 11)
  names : Names (call_of 9) 0 0
  -- a new block is dropped
  new : is_live (cell (story_of 14) 0) ≡ true
  gone : NewGoes (story_of 14) (call_of 14) 0
  -- an event is set aside, recalled, let go; then there is none to recall
  defers : Did DEFER (story_of 18) (call_of 18)
  aside : length (side (story_of 19) 0) ≡ 1
  recalls : Did RECALL (story_of 20) (call_of 20) × (value₁ (story_of 20) (call_of 20) ≡ 1)
  flushes : Did FLUSH (story_of 21) (call_of 21) × (value₁ (story_of 21) (call_of 21) ≡ 1)
  finds : Did RECALL (story_of 22) (call_of 22) × (value₁ (story_of 22) (call_of 22) ≡ 0)
  -- the guarded slot has a chart and an object, a flag of that is set, which changes it the first time, and it takes a step
  guards : Did LOAD (story_of 24) (call_of 24) × (argument (call_of 24) 1 ≡ guarded_slot)
  sits : Did START (story_of 25) (call_of 25) × (argument (call_of 25) 2 ≡ guarded_slot)
  flags : Did FLAG (story_of 26) (call_of 26) × (value₁ (story_of 26) (call_of 26) ≡ 1)
  still : Did FLAG (story_of 27) (call_of 27) × (value₁ (story_of 27) (call_of 27) ≡ 0)
  guarded : Did NEXT (story_of 29) (call_of 29) × (object (story_of 29) (call_of 29) ≡ 10)
  -- only the kernel writes to the payloads, and to the tables up to call 31
  payloads : (i : ℕ) → OnlyKernel payload_area (zeros payload_area) (story_of i)
  tables : (i : ℕ) → honestly asks i ≡ true → OnlyKernelTables no_tables (story_of i)
  honest : honestly asks 31 ≡ true
  -- then others do: DRAIN stops below its budget, and NEXT is refused
  stops : Did DRAIN (story_of 31) (call_of 31) × (value₂ (story_of 31) (call_of 31) ≡ 2)
  unsound : number (story_of 32) (call_of 32) ≡ TABLE

meets : Meets
unfolding asks expected padded is_live is_free one_of OnlyKernel
meets = record {
  loads = (refl, byte_at 0 (omega arith) 0);
  starts = (refl, byte_at 1 (omega arith) 0);
  news = (refl, byte_at 2 (omega arith) 0);
  nexts = (refl, byte_at 5 (omega arith) 0);
  reads = (refl, byte_at 7 (omega arith) 0);
  drains = (refl, byte_at 12 (omega arith) 0);
  loadable = loadable;
  handed = (ap is_free (cell-after 1 (omega arith)), ap is_live (cell-after 2 (omega arith)));
  nears = (mark-before, mark-after);
  runs = on-after 1 (omega arith);
  moves = (rest-after 4 (omega arith), rest-after 5 (omega arith));
  step = byte_at 12 (omega arith) 4;
  refuses = byte_at 9 (omega arith) 0;
  held = ap is_live (cell-after 7 (omega arith));
  last = record { had = rw (refer-after 7 (omega arith)) (omega arith); gone = rw (← after 8 (omega arith)) (refer-after 8 (omega arith)) };
  again = (byte_at 10 (omega arith) 24, generation-at 10 (omega arith));
  first = (byte_at 2 (omega arith) 24, generation-at 2 (omega arith));
  goes = λ k l. record { calls = k; before = before_at 3 k l ∙ after 2 (omega arith) };
  back = ap is_live (cell-after 8 (omega arith));
  on = record { calls = 2; before = before_at 9 2 (omega arith) };
  names = record { command = refl; block = refl; generation = refl };
  new = ap is_live (cell-after 13 (omega arith));
  gone = record { new = refer-after 13 (omega arith); this = refl; how = inl (refl, byte_at 14 (omega arith) 0) };
  defers = (refl, byte_at 18 (omega arith) 0);
  aside = set_aside_lem;
  recalls = ((refl, byte_at 20 (omega arith) 0), byte_at 20 (omega arith) 4);
  flushes = ((refl, byte_at 21 (omega arith) 0), byte_at 21 (omega arith) 4);
  finds = ((refl, byte_at 22 (omega arith) 0), byte_at 22 (omega arith) 4);
  guards = ((refl, byte_at 24 (omega arith) 0), refl);
  sits = ((refl, byte_at 25 (omega arith) 0), refl);
  flags = ((refl, byte_at 26 (omega arith) 0), byte_at 26 (omega arith) 4);
  still = ((refl, byte_at 27 (omega arith) 0), byte_at 27 (omega arith) 4);
  guarded = ((refl, byte_at 29 (omega arith) 0), byte_at 29 (omega arith) 1);
  payloads = λ i. told_payloads fresh (take i asks) tt;
  tables = λ i e. told-tables fresh asks i e (tt, tt);
  honest = refl;
  stops = ((refl, byte_at 31 (omega arith) 0), byte_at 31 (omega arith) 5);
  unsound = byte_at 32 (omega arith) 0;
}
