-- Document 01, "Cutting": what cutting gives, and what holds of every cut.
pub mod Cut
pub mod Theorems
