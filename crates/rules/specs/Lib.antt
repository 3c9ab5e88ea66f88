pub mod Pairs
pub mod Formulas
pub mod Tables
