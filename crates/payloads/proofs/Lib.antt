-- Blocks: NEW and READ, what it says that none of their tests holds, and what a take makes of the blocks.
pub mod Blocks
