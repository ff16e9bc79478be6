pub mod Volume
pub mod Exact
pub mod VolumeLaws
pub mod Formal
pub mod Halving
pub mod VolumeTheorems
pub mod Handed
