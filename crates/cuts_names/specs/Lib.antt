-- Names of vertices, pieces over names and their nodes, and three cuts at a time. No bytes.
pub mod Lists
pub mod Names
pub mod Pieces
pub mod Base
pub mod Three
pub mod Macro
