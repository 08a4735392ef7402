pub mod Doubts
pub mod Looked
pub mod Versions
