pub mod Reduce
pub mod Carries
pub mod Euclid
