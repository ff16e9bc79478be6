-- Document 01, "Build and refine": how a plain piece is marked.
pub mod Marking
pub mod Choosing
pub mod Shifted
