pub mod Paged
