pub mod Definitions
pub mod Opened
pub mod inner
