-- Refusals 5 and 22, judged in one pass over the base records.
pub mod Pieces
pub mod Answer
