pub mod Words
pub mod Handed
