pub mod Builds
pub mod Right
pub mod Seeking
pub mod Selects
pub mod Turns
