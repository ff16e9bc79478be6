-- How faces are shared three cuts down, computed over all valid shapes. No bytes.
pub mod FacesFormal
