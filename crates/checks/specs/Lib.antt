pub mod Words
pub mod Accepted
pub mod Answers
pub mod Ends
pub mod Making
