pub mod GroupSteps
pub mod GroupWrites
