-- What the user asked of each C function's answer.
pub mod Promises
pub mod TakeBack
