-- Theorems says what is proved; Examples, a run, and Meets and Retiring show that none of it is empty. The others, by subject: Dispatch, Made
-- and Frames: from the commands to any record, what a call did that was done, what only some commands change. Numbers, Lines, Refusals: the
-- table. Cells, Blocks, Lasting, Counting: blocks. Handles: the handle in a reply. Once: old handles. Taking and Starting: NEXT and START.
-- Draining and Pairs: DRAIN. Flags: flags. Charted, Tables, Nested, Resting: charts and tables. Lent: what a call is lent. Slots: the table of
-- a slot replaced. Over: bytes written over others. Payloads: payloads, and the lengths of the areas. Aside: side queues. Marks: the least
-- number of free blocks.
pub mod Aside
pub mod Blocks
pub mod Cells
pub mod Charted
pub mod Counting
pub mod Dispatch
pub mod Draining
pub mod Examples
pub mod Flags
pub mod Frames
pub mod Handles
pub mod Lasting
pub mod Lent
pub mod Lines
pub mod Made
pub mod Marks
pub mod Meets
pub mod Nested
pub mod Numbers
pub mod Once
pub mod Over
pub mod Pairs
pub mod Payloads
pub mod Refusals
pub mod Resting
pub mod Retiring
pub mod Slots
pub mod Starting
pub mod Tables
pub mod Taking
pub mod Theorems
