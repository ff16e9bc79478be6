-- A line of the listing as bytes, and how bytes are put into a line buffer.
pub mod Text
pub mod Line
pub mod Decimal
pub mod Laws
