-- Slots: the objects that use a slot. Words: the flags of all objects, in words.
pub mod Slots
pub mod Words
