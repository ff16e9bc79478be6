-- A mesh as tables: leaves, ends, what hangs.
pub mod Tables
pub mod Assembled
