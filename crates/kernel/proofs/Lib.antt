-- Dispatch: what the kernel promises of any record. Parts: the part that READ hands back, found by its place and length.
pub mod Dispatch
pub mod Parts
