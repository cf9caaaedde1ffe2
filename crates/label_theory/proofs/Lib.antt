pub mod LabelLaws
pub mod SheetLaws
