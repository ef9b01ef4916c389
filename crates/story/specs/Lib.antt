-- To be believed: Calls (any sequence of calls), Table (document 01's table of refusals), Terms (the words of the statements), Demands (the
-- statements themselves).
pub mod Calls
pub mod Demands
pub mod Table
pub mod Terms
