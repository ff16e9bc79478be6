-- Document 01, "Build and refine": whatever build accepts, check accepts, and why its marks can't be wrong.
pub mod First
pub mod Edges
pub mod Righted
pub mod Marks
pub mod Shared
pub mod Written
pub mod Records
pub mod Accepts
pub mod Output
pub mod Rows
