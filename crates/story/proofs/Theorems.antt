-- The theorems, each of the statement of its name in specs/Demands.antt. Over each: what would make it empty, and why it is not. `Meets` is
-- the record of Meets.antt, whose fields say which call of the run of Examples.antt meets a hypothesis.
use Rattle.story.specs.Demands
use Rattle.story.proofs.Aside
use Rattle.story.proofs.Counting
use Rattle.story.proofs.Flags
use Rattle.story.proofs.Marks
use Rattle.story.proofs.Nested
use Rattle.story.proofs.Once
use Rattle.story.proofs.Pairs
use Rattle.story.proofs.Payloads
use Rattle.story.proofs.Refusals
use Rattle.story.proofs.Resting
use Rattle.story.proofs.Taking

-- ## Demand 1
-- No hypothesis: of every story and every call.
pub answered : Demands.Answered
answered = Refusals.answered

-- Both sides of an equivalence might never hold: STALE and TABLE are answered in `Meets`, refuses and unsound.
pub refused : Demands.Refused
refused = Refusals.refused

-- A table of which some line always applies: `Meets`, loads, starts, news and others.
pub done : Demands.Done
done = Refusals.done

-- No refusals: `Meets`, refuses.
pub untouched : Demands.Untouched
untouched = Refusals.untouched

-- No hypothesis.
pub lengths : Demands.Lengths
lengths = Payloads.lengths

-- ## Demand 2
-- Blocks that are all free: block 0 is new, then counts 1 and 2 in `expected` of Examples.antt, and is free again.
pub counted : Demands.Counted
counted = Counting.counted

-- No live block, or none that goes back: `Meets`, held and last, new and gone, one for each side of the sum.
pub freed : Demands.Freed
freed = Counting.freed

-- The same, `Meets`, held and back; and none that is retired: the last call of `retires` in Retiring.antt does that.
pub goes_back : Demands.GoesBack
goes_back = Counting.goes_back

-- No hypothesis but the block's number. Block 0 goes from generation 0 to 3 in `expected`.
pub generations : Demands.Generations
generations = Counting.generations

-- No NEW that is done: `Meets`, news and again.
pub handed : Demands.Handed
handed = Counting.handed

-- The same; and with `handed` the lowest free block exists whenever NEW is done. In `Meets`, again, it is the block that was freed.
pub again : Demands.Again
again = Counting.again

-- No block that is handed out: `Meets`, handed.
pub only_new : Demands.OnlyNew
only_new = Counting.only_new

-- No NEXT that is done: `Meets`, nexts.
pub taken : Demands.Taken
taken = Taking.taken

-- No DRAIN that is done, none that takes a step, none that stops below its budget: `Meets`, drains, step and stops.
pub drained : Demands.Drained
drained = Pairs.drained

-- ## Document 02, request 3
-- No DEFER that is done: `Meets`, defers.
pub deferred : Demands.Deferred
deferred = Aside.deferred

-- No RECALL that is done, or only one side of the sum: `Meets`, recalls and finds.
pub recalled : Demands.Recalled
recalled = Aside.recalled

-- No FLUSH that is done, or none that has an entry to let go: `Meets`, flushes.
pub flushed : Demands.Flushed
flushed = Aside.flushed

-- No side queue that changes: `Meets`, defers, since its side queue is then longer.
pub only_aside : Demands.OnlyAside
only_aside = Aside.only_aside

-- Nothing that is set aside: `Meets`, aside.
pub kept_aside : Demands.KeptAside
kept_aside = Aside.kept_aside

-- ## Document 02, request 5
-- No hypothesis: of every story, and of the pool for every size.
pub marked : Demands.Marked
marked = Marks.marked

-- No NEW that is done: `Meets`, news.
pub mark_shown : Demands.MarkShown
mark_shown = Marks.mark_shown

-- No mark that moves: `Meets`, nears.
pub only_taking : Demands.OnlyTaking
only_taking = Marks.only_taking

-- ## Document 02, request 7
-- No NEW in a story that goes on from one, or none of the same block: `Meets`, news, goes and again. That its generation is then another is
-- what the theorem says.
pub handed_once : Demands.HandedOnce
handed_once = Once.handed_once

-- No block that was handed out and is live no more, or no call that names its handle later: `Meets`, first, goes, back, on and names.
pub old_refused : Demands.OldRefused
old_refused = Once.old_refused

-- No retired block: `retires` in Retiring.antt.
pub stays_retired : Demands.StaysRetired
stays_retired = Once.stays_retired

-- ## Document 02, request 8
-- No FLAG that is done, or only one side of the equivalence: `Meets`, flags and still.
pub flagged : Demands.Flagged
flagged = Flags.flagged

-- No START that is done: `Meets`, starts and sits.
pub starts_down : Demands.StartsDown
starts_down = Flags.starts_down

-- No flag that changes: `Meets`, flags, since its value is 1.
pub only_flag : Demands.OnlyFlag
only_flag = Flags.only_flag

-- ## Demand 3
-- Stories in which only the kernel writes to the tables, with no slot that is loaded, or none for guarded charts: `Meets`, tables, honest,
-- loads and guards.
pub tables : Demands.Tables
tables = Nested.tables

-- No START that is done in such a story: `Meets`, starts and sits.
pub starts : Demands.Starts
starts = Nested.starts

-- No NEXT that is done in such a story: `Meets`, nexts and guarded.
pub nexts : Demands.Nexts
nexts = Nested.nexts

-- No DRAIN that takes a step in such a story: `Meets`, drains and step.
pub drain_steps : Demands.DrainSteps
drain_steps = Nested.drain_steps

-- No object that moves: `Meets`, moves.
pub rests : Demands.Rests
rests = Resting.rests

-- No started object in such a story: `Meets`, runs, tables and honest.
pub rests_in_leaf : Demands.RestsInLeaf
rests_in_leaf = Resting.rests_in_leaf

-- No started object: `Meets`, runs.
pub seated : Demands.Seated
seated = Resting.seated

-- TABLE might never be answered at all: it is, and DRAIN stops at a row, once others write to the tables: `Meets`, unsound and stops.
pub table_never : Demands.TableNever
table_never = Resting.table_never

-- No LOAD that meets all the conditions: `Meets`, loadable.
pub loads : Demands.Loads
loads = Resting.loads

-- ## Payloads
-- No live block in a story where only the kernel writes to the payloads: `Meets`, payloads, held and new.
pub payloads : Demands.Payloads
payloads = Payloads.payloads

-- No READ that is done in such a story: `Meets`, reads.
pub reads : Demands.Reads
reads = Payloads.reads
