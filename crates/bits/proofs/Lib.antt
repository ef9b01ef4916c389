-- Digits: the members of what an operation makes. Ranges, Last: what counts of digits find. Bounds: that they are small.
pub mod Bounds
pub mod Digits
pub mod Last
pub mod Ranges
