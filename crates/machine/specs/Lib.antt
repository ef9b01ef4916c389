-- To be believed, in the documents' order: Numbers, State, Reply, the commands (Charts, Events, Steps, Clocks, Aside), Machine.
-- Inv: what is kept. Run: DRAIN as a loop makes it.
pub mod Aside
pub mod Charts
pub mod Clocks
pub mod Events
pub mod Inv
pub mod Machine
pub mod Numbers
pub mod Reply
pub mod Run
pub mod State
pub mod Steps
