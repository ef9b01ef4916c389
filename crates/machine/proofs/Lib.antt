-- Fresh and Keeps: a fresh start has the invariant, and every command keeps it. By subject: KeepsCharts, KeepsEvents with Blocks and
-- Publish, KeepsSteps, KeepsClocks, KeepsAside; Parts and Counts: each part of the invariant after a change, and the references.
-- Tests: what a command's tests say, and Last, of the last one alone. Dispatch: from the commands to any record. Replies: what holds of every reply.
-- Run and Drain: a run of steps that lets go of the blocks afterwards is what DRAIN does. Flush: so is FLUSH.
pub mod Blocks
pub mod Counts
pub mod Dispatch
pub mod Drain
pub mod Flush
pub mod Fresh
pub mod Keeps
pub mod KeepsAside
pub mod KeepsCharts
pub mod KeepsClocks
pub mod KeepsEvents
pub mod KeepsSteps
pub mod Last
pub mod Parts
pub mod Publish
pub mod Replies
pub mod Run
pub mod Tests
