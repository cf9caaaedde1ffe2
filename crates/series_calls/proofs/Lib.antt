pub mod Inverting
pub mod Logging
