pub mod Places
pub mod Adding
pub mod Turns
pub mod Levels
