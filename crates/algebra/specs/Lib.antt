pub mod Ring
pub mod Solver
pub mod Absolute
pub mod Multiple
