pub mod Agreement
pub mod Bare
pub mod Settling
