-- Laws that several proofs use.
pub mod Cutting
pub mod Feeding
pub mod Intact
pub mod Opened
pub mod RoundTrip
pub mod Sending
pub mod Steps
pub mod Theorems
