pub mod Block
pub mod Reading
