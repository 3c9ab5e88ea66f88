pub mod Calls
pub mod Copies
pub mod Refusals
pub mod Replies
pub mod Stands
