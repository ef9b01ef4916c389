-- Theorems says what is proved of the definitions. The others are the laws that it and the functions' proofs rest on.
pub mod Laws
pub mod Walk
pub mod Steps
pub mod Accepted
pub mod Rows
pub mod Index
pub mod OneRow
pub mod InOrder
pub mod Found
pub mod Within
pub mod Agree
pub mod Unflagged
pub mod Leaf
pub mod Words
pub mod Theorems
