-- Face to face, of a stored mesh: the words and the theorem, and its proof from the theorem over sets of cuts.
pub mod Words
pub mod Carried
pub mod FaceToFace
