-- Document 02, request nine: what is taken away, what remains, and its new numbers.
pub mod Remains
pub mod Numbers
pub mod Held
pub mod Left
pub mod Same
