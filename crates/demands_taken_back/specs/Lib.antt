-- Taking cuts back, in demand 2's words, and the numbering of what remains.
pub mod Words
pub mod Renumbered
pub mod Smaller
pub mod Stored
pub mod ByNumbers
pub mod ByTables
pub mod TablesLeft
pub mod One
