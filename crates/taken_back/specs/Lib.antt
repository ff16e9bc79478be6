-- Request nine: ours takes cuts back as it is asked. The page is TakenBack.
pub mod Words
pub mod Attach
pub mod Requests
pub mod Result
pub mod Used
pub mod TakenBack
pub mod Outcome
