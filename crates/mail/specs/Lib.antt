-- To be believed: Box (the mailboxes as lists), Entry (what the numbers in them stand for).
-- For the layers above: View (the entries of rings, shut), Counted (how many these are) and Laws. For this crate's proofs alone: Inside.
pub mod Box
pub mod Counted
pub mod Entry
pub mod Inside
pub mod Laws
pub mod View
