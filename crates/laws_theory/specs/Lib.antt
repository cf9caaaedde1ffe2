pub mod Calls
pub mod Demand
pub mod Accepting
