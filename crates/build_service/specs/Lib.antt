-- Document 01, "Build and refine": what build answers, for every input.
pub mod Build
pub mod Storing
pub mod Answer
