-- What list answers, and the laws by which the code gets there.
pub mod Listing
pub mod Lengths
pub mod Answer
pub mod Putting
