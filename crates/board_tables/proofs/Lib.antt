mod Supersets
mod Raising
mod Fresh
