-- Document 02, request nine: worked rows, and what the answer says.
pub mod Rows
pub mod Answer
