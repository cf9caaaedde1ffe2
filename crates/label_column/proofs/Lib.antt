pub mod ControlSteps
pub mod NameSteps
pub mod ColumnSteps
