-- Wants: SUBSCRIBE and UNSUBSCRIBE, what it says that none of their tests holds.
pub mod Wants
