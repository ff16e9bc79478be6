-- Facts about lists, bounded quantifiers, loops, bytes as numbers and rules in their order, each stated once.
pub mod Below
pub mod Lists
pub mod Numbers
pub mod Pairs
pub mod Links
pub mod Counts
pub mod Order
pub mod Ranges
