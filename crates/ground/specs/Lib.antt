-- To be believed: Range (lists, searches and counts that are given by a function of a place), Bytes and Word. The rest are laws: Tab,
-- Search, Counting, Every of Range; Padding of Bytes; Words of Word; Bools, Lists, Parts of what their names say.
pub mod Bools
pub mod Bytes
pub mod Counting
pub mod Every
pub mod Lists
pub mod Padding
pub mod Parts
pub mod Range
pub mod Search
pub mod Tab
pub mod Word
pub mod Words
