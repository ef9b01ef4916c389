-- The three demands, of any story h and any further call c: whatever the records, the charts and the areas are that the calls are given.
-- Each statement is a type; its proof has the same name in small letters.
use Rattle.std.specs.Prelude.{true, false, cond, ◌&&◌, List, ◌∷◌, ◌↔◌, ◌⊎◌, ◌≡◌, ℕ, ◌+◌, ◌-◌, ◌≤◌, ◌<◌, eqb, length, get_or, take, drop, replicate}
use Rattle.ground.specs.Bytes.{padded}
use Rattle.chart.specs.Chart.{class_of, leaf, states}
use Rattle.chart.specs.Numbers.{slot_size}
use Rattle.chart.specs.Step.{start}
use Rattle.pool.specs.Cell.{live, is_free, is_retired, generation_of, last_generation, back}
use Rattle.pool.specs.Laws.{Lowest}
use Rattle.pool.specs.Row.{pool_for}
use Rattle.machine.specs.Charts.{slot_table, slot_used}
use Rattle.machine.specs.Inv.{is_live}
use Rattle.machine.specs.Machine.{part_of}
use Rattle.machine.specs.Numbers.{objects, blocks, slots, guarded_slot, edition_of, reply_bytes, table_bytes, guarded_bytes, capacity, place_of}
use Rattle.machine.specs.Reply.{DONE, STALE, TABLE, BothTables}
use Rattle.machine.specs.State.{size_in, rest_of, slot_of, started, is_loaded, is_open}
use Rattle.story.specs.Calls.{Call, Story, fresh, then, kernel, answer_in, payload_area, left, OnlyKernel, left_tables, OnlyKernelTables}
use Rattle.story.specs.Table.{LOAD, START, NEW, NEXT, READ, DRAIN, DEFER, RECALL, FLUSH, FLAG}
use Rattle.story.specs.Terms.{argument, reply, number, object, value₁, value₂, event, generation, Did, applies_to, chart_in, given_to, cell, refer, Counts, LastGoes, NewGoes}
use Rattle.story.specs.Terms.{next_call, steps, log_line, says, signal_taken, nested, Unchanged, Takes, Drains, Holds}
use Rattle.story.specs.Terms.{side, Defers, Recalls, FindsNone, Flushes, Lives}
use Rattle.story.specs.Terms.{count, mark, Smallest}
use Rattle.story.specs.Terms.{GoesOn, Names}
use Rattle.story.specs.Terms.{is_up, SetsFlag}

-- ## Demand 1
-- "Any command record, chart and lent area, in any order of calls from a fresh start, gets an answer and never a trap."
abbrev pub Answered : Type 0
Answered = (h : Story) (c : Call) → (length (reply h c) ≡ reply_bytes) × (number h c ≤ 15)

-- "Each refusal has one number, comes exactly when its condition holds and no lower one's does": the conditions are the table's.
abbrev pub Refused : Type 0
Refused = (h : Story) (c : Call) (n : ℕ) → 0 < n → (number h c ≡ n) ↔ ((applies_to h c n ≡ true) × ((m : ℕ) → m < n → applies_to h c m ≡ false))

abbrev pub Done : Type 0
Done = (h : Story) (c : Call) → (number h c ≡ DONE) ↔ ((n : ℕ) → applies_to h c n ≡ false)

-- ".. and changes nothing": the kernel, the areas that the call was lent, and all of the reply.
abbrev pub Untouched : Type 0
Untouched = (h : Story) (c : Call) → 0 < number h c → Unchanged h c

-- What is lent keeps its length.
abbrev pub Lengths : Type 0
Lengths =
    (h : Story) (c : Call) → let z = (answer_in h c).areas in
    (length z.payloads ≡ length c.areas.payloads)
    × (length z.tables.plain ≡ length c.areas.tables.plain)
    × (length z.tables.guarded ≡ length c.areas.tables.guarded)
    × (length z.log ≡ length c.areas.log)

-- ## Demand 2
-- "A block is free, new, or counted by mailbox entries, holds and the step in hand;", and by side entries since request 3 of document 02;
-- "free, new, counted or retired" since its request 7;
abbrev pub Counted : Type 0
Counted = (h : Story) (b : ℕ) → b < blocks → Counts (cell h b) (refer h b)

-- "it goes back exactly when the last of these is gone", or while new when it is dropped or published to nobody; document 02: "exactly when
-- no mailbox entry, side entry, hold or step in hand is left";
abbrev pub Freed : Type 0
Freed =
    (h : Story) (c : Call) (b : ℕ) → b < blocks → is_live (cell h b) ≡ true →
    (is_live (cell (then h c) b) ≡ false) ↔ (LastGoes h c b ⊎ NewGoes h c b)

-- and is then free, one generation on; but "a block freed at generation 16,777,215 is retired";
abbrev pub GoesBack : Type 0
GoesBack =
    (h : Story) (c : Call) (b : ℕ) → b < blocks → is_live (cell h b) ≡ true → is_live (cell (then h c) b) ≡ false →
    cell (then h c) b ≡ back (generation_of (cell h b))

-- "each time the block is freed, [the generation] goes up by one", up to the last, and at nothing else;
abbrev pub Generations : Type 0
Generations =
    (h : Story) (c : Call) (b : ℕ) → b < blocks → let g = generation_of (cell h b) in
    (generation_of (cell (then h c) b) ≡ cond (is_live (cell h b) && is_free (cell (then h c) b)) (g + 1) g) × (g ≤ last_generation)

-- "and is handed out again", a retired block excepted: NEW hands out the lowest free block of the pool for its size, so a freed one that is
-- this; and only NEW does.
abbrev pub Handed : Type 0
Handed =
    (h : Story) (c : Call) → Did NEW h c → let b = event h c in let g = generation_of (cell h b) in
    Lowest (kernel h).cells (pool_for (argument c 2)) b × (generation h c ≡ g) × (cell (then h c) b ≡ live g 0)

abbrev pub Again : Type 0
Again = (h : Story) (c : Call) (b : ℕ) → Did NEW h c → Lowest (kernel h).cells (pool_for (argument c 2)) b → event h c ≡ b

abbrev pub OnlyNew : Type 0
OnlyNew = (h : Story) (c : Call) (b : ℕ) → is_free (cell h b) ≡ true → is_live (cell (then h c) b) ≡ true → Did NEW h c × (event h c ≡ b)

-- "The highest-priority object with mail gets its front event." The others' mail stays.
abbrev pub Taken : Type 0
Taken = (h : Story) (c : Call) → Did NEXT h c → Takes h c (object h c)

-- DRAIN: "steps equal the fall in queued entries, and each log line is NEXT on the state before it"; the event of an unsound row "stays".
abbrev pub Drained : Type 0
Drained = (h : Story) (c : Call) → Did DRAIN h c → Drains h c (value₁ h c)

-- ## Document 02, request 3, "set an event aside"
-- "DEFER q puts the block event in hand last into side queue q"; it "leaves the step open".
abbrev pub Deferred : Type 0
Deferred = (h : Story) (c : Call) → Did DEFER h c → Defers h c (argument c 1)

-- "RECALL q, p moves its oldest entry to the front of p's mailbox"; "an empty side queue is no refusal".
abbrev pub Recalled : Type 0
Recalled = (h : Story) (c : Call) → Did RECALL h c → Recalls h c (argument c 1) (argument c 2) ⊎ FindsNone h c (argument c 1)

-- "FLUSH q empties it."
abbrev pub Flushed : Type 0
Flushed = (h : Story) (c : Call) → Did FLUSH h c → Flushes h c (argument c 1)

-- Nothing else changes a side queue.
abbrev pub OnlyAside : Type 0
OnlyAside =
    (h : Story) (c : Call) (q : ℕ) → (side (then h c) q ≡ side h q → ⊥) →
    (argument c 1 ≡ q) × (Did DEFER h c ⊎ (Did RECALL h c ⊎ Did FLUSH h c))

-- Nothing that is set aside is freed: each entry of a side queue is a live block, and so has the bytes that its NEW gave (Payloads).
abbrev pub KeptAside : Type 0
KeptAside = (h : Story) (q i : ℕ) → i < length (side h q) → Lives h (get_or (side h q) i 0)

-- ## Document 02, request 5, "how near did we come?"
-- The mark is "that pool's least number of free blocks since the fresh start": the smallest that it had at any point of the story, of the
-- pool for any size; at the fresh start the pool's size.
abbrev pub Marked : Type 0
Marked = (h : Story) (size : ℕ) → let pool = pool_for size in Smallest h pool (mark h pool) × (mark fresh pool ≡ pool.to - pool.from)

-- "NEW shows it in the reply's count byte", of the pool that it took from, "this one included".
abbrev pub MarkShown : Type 0
MarkShown = (h : Story) (c : Call) → Did NEW h c → count h c ≡ mark (then h c) (pool_for (argument c 2))

-- "A refused NEW doesn't move the mark, and neither does freeing": only a NEW that is done does, and the mark of its own pool alone.
abbrev pub OnlyTaking : Type 0
OnlyTaking =
    (h : Story) (c : Call) (size : ℕ) → let pool = pool_for size in
    (mark (then h c) pool ≡ mark h pool → ⊥) → Did NEW h c × (pool_for (argument c 2) ≡ pool)

-- ## Document 02, request 7, "handles that come back from the dead"
-- A handle that a NEW handed out is handed out never again: not in any story that goes on from there.
abbrev pub HandedOnce : Type 0
HandedOnce =
    (h : Story) (c : Call) → Did NEW h c → (later : Story) → GoesOn (then h c) later → (d : Call) → Did NEW later d →
    event later d ≡ event h c → generation later d ≡ generation h c → ⊥

-- "Every old handle is now refused": once the block that a NEW handed out was freed, each command that names the handle is answered STALE
-- or a lower number, for ever.
abbrev pub OldRefused : Type 0
OldRefused =
    (h : Story) (c : Call) → Did NEW h c → let b = event h c in let g = generation h c in
    (gone : Story) → GoesOn (then h c) gone → is_live (cell gone b) ≡ false →
    (later : Story) → GoesOn gone later → (d : Call) → Names d b g → (DONE < number later d) × (number later d ≤ STALE)

-- A retired block stays retired, and so is "never handed out".
abbrev pub StaysRetired : Type 0
StaysRetired = (h : Story) (c : Call) (b : ℕ) → is_retired (cell h b) ≡ true → cell (then h c) b ≡ cell h b

-- ## Document 02, request 8, "charts with conditions"
-- "FLAG p, flag, 0 or 1 clears or sets one flag, value 1 if it changed", and does nothing else.
abbrev pub Flagged : Type 0
Flagged = (h : Story) (c : Call) → Did FLAG h c → SetsFlag h c (argument c 1) (argument c 2) (eqb (argument c 3) 1)

-- "All flags are down at START."
abbrev pub StartsDown : Type 0
StartsDown = (h : Story) (c : Call) → Did START h c → (f : ℕ) → is_up (then h c) (argument c 1) f ≡ false

-- Nothing else changes a flag.
abbrev pub OnlyFlag : Type 0
OnlyFlag =
    (h : Story) (c : Call) (p f : ℕ) → (is_up (then h c) p f ≡ is_up h p f → ⊥) →
    (argument c 1 ≡ p) × ((Did FLAG h c × (argument c 2 ≡ f)) ⊎ Did START h c)

-- ## Demand 3, "as long as nobody but the kernel writes to the tables"
-- Each loaded slot has the chart of its last LOAD; its table agrees with it, flat and nested, "over any sequence of signals and FLAG
-- commands" (document 02, request 8), by the slot's edition.
abbrev pub Tables : Type 0
Tables =
    (h : Story) (first : BothTables) → OnlyKernelTables first h → (q : ℕ) → q < slots → is_loaded (kernel h) q ≡ true →
    Holds (edition_of q) (chart_in h q) (take (slot_size (edition_of q)) (slot_table (left_tables first h) q))

-- START answers the nested `start`, NEXT the nested `step` from where its object rests with its flags, and so does every step of DRAIN.
abbrev pub Starts : Type 0
Starts =
    (h : Story) (c : Call) (first : BothTables) → OnlyKernelTables first (then h c) → Did START h c → let a = start (chart_in h (argument c 2)) in
    (reply h c ≡ says (argument c 1) 0 0 0 a) × (rest_of (kernel (then h c)) (argument c 1) ≡ a.next)

abbrev pub Nexts : Type 0
Nexts =
    (h : Story) (c : Call) (first : BothTables) → OnlyKernelTables first (then h c) → Did NEXT h c →
    (reply h c ≡ says (object h c) (signal_taken h c) (event h c) (generation h c) (nested h c)) × (rest_of (kernel (then h c)) (object h c) ≡ (nested h c).next)

abbrev pub DrainSteps : Type 0
DrainSteps =
    (h : Story) (c : Call) (first : BothTables) → OnlyKernelTables first (then h c) → Did DRAIN h c → (i : ℕ) → i < value₁ h c →
    let t = steps h c i in let n = next_call c in
    log_line i (answer_in h c).areas.log ≡ says (object t n) (signal_taken t n) (event t n) (generation t n) (nested t n)

-- Nothing else changes where an object rests, whoever writes to the tables.
abbrev pub Rests : Type 0
Rests =
    (h : Story) (c : Call) (p : ℕ) → 1 ≤ p → (rest_of (kernel (then h c)) p ≡ rest_of (kernel h) p → ⊥) →
    (Did START h c × (argument c 1 ≡ p)) ⊎ ((Did NEXT h c × (object h c ≡ p)) ⊎ Did DRAIN h c)

-- Document 02, request 1, "an object rested in a parent state": from now on every started object rests in a leaf of its slot's chart.
abbrev pub RestsInLeaf : Type 0
RestsInLeaf =
    (h : Story) (first : BothTables) → OnlyKernelTables first h → (p : ℕ) → 1 ≤ p → started (kernel h) p ≡ true →
    leaf (chart_in h (slot_of (kernel h) p)) (rest_of (kernel h) p) ≡ true

-- A started object stays so, on the chart that its slot had.
abbrev pub Seated : Type 0
Seated =
    (h : Story) (c : Call) (p : ℕ) → 1 ≤ p → started (kernel h) p ≡ true → let s = kernel (then h c) in
    (started s p ≡ true) × (slot_of s p ≡ slot_of (kernel h) p) × (chart_in (then h c) (slot_of s p) ≡ chart_in h (slot_of s p))

-- No row is unsound where only the kernel writes to the tables: TABLE is answered, and DRAIN stops at a row, only where others wrote to them.
abbrev pub TableNever : Type 0
TableNever = (h : Story) (c : Call) (first : BothTables) → OnlyKernelTables first (then h c) → (number h c ≡ TABLE → ⊥) × (Did DRAIN h c → value₂ h c ≡ 2 → ⊥)

-- "No accepted chart is turned away": accepted "by the check of the slot's own edition, and for slot 4 both tables must have their length".
abbrev pub Loads : Type 0
Loads =
    (h : Story) (c : Call) (q : ℕ) → c.command ≡ LOAD ∷ q ∷ replicate 70 0 → class_of (edition_of q) c.chart ≡ 0 →
    length c.areas.tables.plain ≡ table_bytes → (q ≡ guarded_slot → length c.areas.tables.guarded ≡ guarded_bytes) → q < slots →
    is_open (kernel h).hand ≡ false → slot_used (kernel h) q objects ≡ false →
    (number h c ≡ DONE) × (value₁ h c ≡ states c.chart) × (is_loaded (kernel (then h c)) q ≡ true)

-- ## Payloads: as long as nobody but the kernel writes to them, a live block has what its NEW gave, then zeros, and READ hands it back.
abbrev pub Payloads : Type 0
Payloads =
    (h : Story) (first : List ℕ) → OnlyKernel payload_area first h → (b : ℕ) → b < blocks → is_live (cell h b) ≡ true →
    (size_in (kernel h) b ≡ length (given_to h b)) × (take (capacity b) (drop (place_of b) (left payload_area first h)) ≡ padded (capacity b) (given_to h b))

abbrev pub Reads : Type 0
Reads =
    (h : Story) (c : Call) (first : List ℕ) → OnlyKernel payload_area first (then h c) → Did READ h c →
    part_of (kernel h) c.command c.areas.payloads ≡ given_to h (argument c 1)
