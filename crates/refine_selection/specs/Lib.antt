-- Document 01, "Numbers we give back": the selection's refusals, 11 to 18.
pub mod Selected
pub mod Answer
