pub mod Numbers
pub mod Outcomes
pub mod NumberAnswers
pub mod Stores
