-- What a writer is once bytes are put, and its laws.
pub mod Written
pub mod Laws
