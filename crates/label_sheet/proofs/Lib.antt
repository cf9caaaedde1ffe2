pub mod SheetSteps
pub mod ArraySteps
