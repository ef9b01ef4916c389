-- Glue: what a command answers, from what its code gave back.
pub mod Glue
pub mod Arrays
