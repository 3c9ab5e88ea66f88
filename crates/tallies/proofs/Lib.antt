pub mod Reading
pub mod Counting
pub mod Running
pub mod Moving
