-- Laws: what a step finds. Midway: the run in the midst of one object's steps, and a step more of it. Loop: what the loops keep.
pub mod Laws
pub mod Midway
pub mod Loop
