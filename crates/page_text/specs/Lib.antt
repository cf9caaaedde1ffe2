pub mod PageParts
pub mod PageSteps
