pub mod Levels
pub mod Tables
pub mod Turns
