-- Document 02, request nine: the mesh that is left, written entry by entry.
pub mod Closed
pub mod Law
