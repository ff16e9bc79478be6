-- Theorems that an edit of a definition in specs/ breaks. They stand here, so that specs/ still reads under it.
pub mod Bases
pub mod Cuts
pub mod Descent
pub mod Exactly
pub mod HangingFirst
pub mod Volumes
