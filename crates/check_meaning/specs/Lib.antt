-- What it means that check accepts a mesh: the plain statements, that check asks exactly these, and what follows for every record.
pub mod Tests
pub mod Accepted
pub mod Counting
pub mod Heading
pub mod Vertices
pub mod Bases
pub mod Faces
pub mod Inside
pub mod Cuts
pub mod Exactly
pub mod HangingFirst
pub mod Descent
pub mod Sums
pub mod Volumes
