-- Document 01, "Build and refine": a cut on tables, and the same cut in two slices.
pub mod Cut
pub mod Slices
pub mod Steps
pub mod Fits
pub mod Law
