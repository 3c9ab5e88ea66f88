pub mod Agreeing
pub mod Carrying
pub mod Striking
