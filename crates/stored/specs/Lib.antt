-- The stored mesh and the selection: what their bytes say, and which bytes say it. The only place that knows an offset, a width or a stride.
pub mod Layout
pub mod Held
pub mod Fitting
pub mod Coordinate
pub mod Entries
pub mod Tables
pub mod Meshes
pub mod Worked
