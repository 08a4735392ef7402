pub mod Format
pub mod IndexOf
pub mod Files
pub mod Reading
pub mod inner
pub mod Ranges
