-- Refusal 23: base vertices in cells, and which cells a piece is asked in.
pub mod Cells
pub mod Search
