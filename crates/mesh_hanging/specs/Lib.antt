-- What hangs, along links.
pub mod Hanging
