pub mod Values
pub mod Moduli
pub mod Accumulated
pub mod Reciprocals
