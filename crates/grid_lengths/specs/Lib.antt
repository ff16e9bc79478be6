-- Document 01, "Build and refine": squared lengths, and the ranking of edges.
pub mod Lengths
pub mod LengthLaws
pub mod RankingTheorems
