-- Timers: the timers as the machine has them. Timing: the state that timers, mailboxes and depths stand for, and what a turn relies on.
pub mod Timers
pub mod Timing
