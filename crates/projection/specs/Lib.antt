pub mod Places
pub mod Levels
