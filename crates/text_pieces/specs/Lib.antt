pub mod Text
pub mod TextLaws
