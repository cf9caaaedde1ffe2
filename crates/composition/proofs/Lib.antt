pub mod Copies
pub mod Upper
pub mod Places
pub mod Turns
pub mod Levels
