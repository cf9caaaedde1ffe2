mod Signs
mod Functions
