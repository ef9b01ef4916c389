-- Queues: what the tests of DEFER, RECALL and FLUSH say where none of them holds, and what is done with the entries.
pub mod Queues
