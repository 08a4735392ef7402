pub mod Levels
pub mod Spellings
