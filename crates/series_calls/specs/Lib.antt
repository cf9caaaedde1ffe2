pub mod InverseTables
pub mod Hollow
