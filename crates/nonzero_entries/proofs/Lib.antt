pub mod Skipping
