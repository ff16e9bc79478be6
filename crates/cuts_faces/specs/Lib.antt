-- Face to face, over sets of cuts: each face of a leaf is in two leaves, or in one and lies in a base face that is in one base piece only.
pub mod FaceToFace
pub mod Apart
pub mod Lies
pub mod Kid
pub mod CutAway
pub mod LastFormal
pub mod LastVertex
pub mod Step
pub mod Twin
pub mod Figure6
