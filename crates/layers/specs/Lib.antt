pub mod Layers
pub mod Passes
pub mod Rows
pub mod Scratch
