-- Theorems that an edit of a definition in specs/ breaks. They stand here, so that specs/ still reads under it.
pub mod FromTables
pub mod One
pub mod Renumbered
pub mod Stored
pub mod TablesLeft
