pub mod Codes
pub mod Widths
pub mod Paging
pub mod PageLaws
pub mod Places
