pub mod LabelArrays
pub mod SheetAnswers
pub mod ArrayLaws
