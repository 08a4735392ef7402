pub mod Others
pub mod OpenPoints
pub mod Removed
pub mod Shown
