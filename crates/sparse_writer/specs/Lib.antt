pub mod Sizes
pub mod SizeLaws
