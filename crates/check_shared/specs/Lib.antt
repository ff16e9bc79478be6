-- What rule 7 says of two pieces, said of the corners of a face that they share; a sum of a face's corners, by which it is found.
pub mod Faces
pub mod Sums
pub mod Shared
pub mod Rest
pub mod Marks
