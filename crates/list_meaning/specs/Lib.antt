-- What the listing says.
pub mod Example
pub mod Longest
