-- Theorems that an edit of a definition in specs/ breaks. They stand here, so that specs/ still reads under it.
pub mod Box
pub mod Weights
