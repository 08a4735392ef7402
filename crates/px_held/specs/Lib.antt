pub mod Held
pub mod HeldData
pub mod Merged
