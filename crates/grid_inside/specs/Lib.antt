-- Document 02, "Two": when a vertex lies in a closed piece, by exact determinants, and what that means.
pub mod Inside
pub mod Formal
pub mod Parts
pub mod Weights
pub mod Corners
