pub mod Codes
pub mod Operands
pub mod Places
