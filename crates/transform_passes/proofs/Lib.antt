mod Controls
mod Fours
mod Halving
mod Steps
