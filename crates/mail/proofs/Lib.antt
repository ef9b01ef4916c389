-- Rings: what a store does to a ring's entries.
pub mod Rings
