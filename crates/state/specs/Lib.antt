-- View: how the struct is read as the machine's state, and what a good kernel is.
pub mod View
