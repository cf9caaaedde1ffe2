pub mod Single
pub mod Raised
pub mod Accepted
pub mod Moves
pub mod Runs
pub mod Orders
pub mod Books
