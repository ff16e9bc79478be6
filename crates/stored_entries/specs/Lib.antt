-- A mesh's vertices and records, and what the readers of entries rest on.
pub mod Formats
pub mod Mesh
