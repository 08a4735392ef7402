pub mod inner
pub mod Parsed
