-- Document 01, "The marked piece": slots, edge codes and faces.
pub mod Edges
pub mod Tables
