-- Timers: ARM, DISARM and TICK, what their tests say and what TICK answers.
pub mod Timers
