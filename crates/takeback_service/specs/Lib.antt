-- Document 02, request nine: what taking cuts back answers, for every input.
pub mod TakeBack
pub mod Order
pub mod Storing
pub mod Answer
