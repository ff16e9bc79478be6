pub mod Children
pub mod Midpoints
pub mod Lent
