pub mod Horizons
pub mod Named
pub mod Parts
pub mod Rows
pub mod Slices
