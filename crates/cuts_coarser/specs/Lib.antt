-- Taking cuts back, over sets of cuts: which made vertices are taken away, what remains, and that nothing coarser can be had.
pub mod TakenAway
pub mod Coarser
pub mod Remaining
pub mod Ring
