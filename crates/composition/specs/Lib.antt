pub mod Ready
pub mod Results
pub mod Slots
