-- Numbers of which some remain and close up in their order.
pub mod Remaining
pub mod InOrder
