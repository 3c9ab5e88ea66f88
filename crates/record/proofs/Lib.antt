pub mod Heights
pub mod Zeros
