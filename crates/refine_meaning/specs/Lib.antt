-- What refine's answer means.
pub mod Answer
pub mod Kept
pub mod Rows
