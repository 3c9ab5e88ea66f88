pub mod Splitting
pub mod Unread
