pub mod Chunks
mod Making
pub mod Passing
pub mod Rows
