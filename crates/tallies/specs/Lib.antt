pub mod Machines
pub mod Plateaus
pub mod Rows
pub mod Stretches
