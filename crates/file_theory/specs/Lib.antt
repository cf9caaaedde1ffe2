pub mod Parts
pub mod FullEntries
pub mod SparseEntries
pub mod RoundTrip
pub mod Lengths
