-- Document 01, "The marked piece": marks, types, valid shapes, corners and ends.
pub mod Shape
pub mod Ends
pub mod Same
pub mod Every
