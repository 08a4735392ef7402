pub mod Bounds
pub mod Raises
