pub mod Blocks
pub mod Halves
pub mod Levels
pub mod Pairing
