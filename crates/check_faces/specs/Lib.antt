-- Rule 7 by faces, and the links by which faces are found.
pub mod Faces
pub mod Linked
