pub mod Kinds
pub mod Law
pub mod Theorem
