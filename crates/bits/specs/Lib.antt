-- To be believed: Members (a word as a set, and what is searched there). For the layers above: Laws.
-- For this crate's proofs alone: Inside.
pub mod Inside
pub mod Laws
pub mod Members
