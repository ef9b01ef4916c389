-- Loaded: the reply to what LOAD's code gave back.
pub mod Loaded
