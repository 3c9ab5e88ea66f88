pub mod Masks
pub mod Memberwise
pub mod Singles
