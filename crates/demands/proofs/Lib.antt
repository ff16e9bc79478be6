-- Theorems that an edit of a definition in specs/ breaks. They stand here, so that specs/ still reads under it.
pub mod Demand3
pub mod Handed
pub mod Hanging
pub mod Impostors
pub mod Starred
