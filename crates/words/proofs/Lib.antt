pub mod Bits
pub mod Membership
pub mod Sizes
pub mod Walking
