-- To be believed: Wire (the bytes of a frame), Writing (what the writer does), Reading (what a reader makes of bytes); and for the
-- statements about both Terms (their words) and Demands (the statements themselves). For the layers above: View (the state that a reader
-- stands for, shut). For this crate's proofs alone: Inside, Stores.
pub mod Demands
pub mod Inside
pub mod Reading
pub mod Stores
pub mod Terms
pub mod View
pub mod Wire
pub mod Writing
