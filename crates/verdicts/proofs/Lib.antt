mod Seeking
pub mod Telling
pub mod Walks
