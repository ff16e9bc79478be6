-- Document 01, "Numbers we give back": a decoded mesh as tables, refusals 1 to 10, 22 and 23 one by one, and what check answers.
pub mod Refusals
pub mod Check
pub mod Rows
pub mod Bounded
pub mod Lent
pub mod Outcomes
pub mod OneOutcome
