pub mod Labels
pub mod SheetLaws
pub mod Columns
pub mod Splitting
pub mod LabelLaws
