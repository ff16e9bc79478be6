-- The listing's lines.
pub mod Lines
