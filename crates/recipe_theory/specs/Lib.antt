pub mod Reading
pub mod ReadingLaws
pub mod Lines
pub mod Postfix
pub mod Values
pub mod Choices
pub mod Stack
