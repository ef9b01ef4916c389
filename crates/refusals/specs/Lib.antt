-- Refused: the number of what a row of tests answers.
pub mod Refused
