-- Document 01, "Build and refine": "Refine works in passes".
pub mod Passes
pub mod Puts
pub mod Steps
pub mod Law
pub mod Linked
pub mod Chosen
