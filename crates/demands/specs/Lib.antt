-- The demands: a page each, with what it asks of any services and the theorem that ours meet it; the table worked by hand; impostors refuted.
pub mod Demand1
pub mod Demand2
pub mod Demand3
pub mod Handed
pub mod Hanging
pub mod Numbers
pub mod Starred
