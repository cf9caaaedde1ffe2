pub mod Books
pub mod Raised
pub mod Runs
