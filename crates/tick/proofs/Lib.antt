-- Turns: the turn of one timer by what the code reads, and the turns of all.
pub mod Turns
