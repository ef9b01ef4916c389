-- Turns: what one object adds to the count, to the test and to the posts.
pub mod Turns
