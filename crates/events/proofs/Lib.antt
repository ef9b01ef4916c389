-- Handles: the tests of a handle. Posts: POST and POSTFRONT. Receivers: PUBLISH.
pub mod Handles
pub mod Posts
pub mod Receivers
