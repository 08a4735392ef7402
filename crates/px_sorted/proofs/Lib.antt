pub mod Stable
pub mod Ascending
pub mod Whole
