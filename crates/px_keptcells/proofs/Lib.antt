pub mod Handed
pub mod Parts
pub mod Rows
pub mod Sorted
