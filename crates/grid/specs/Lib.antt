pub mod Places
pub mod PlaceLaws
pub mod Corners
pub mod GridTheorems
