-- Document 01, "Numbers we give back" and "Build and refine": what refine answers, for every input.
pub mod Refine
pub mod Order
pub mod Storing
pub mod Answer
