pub mod Faults
pub mod Turns
pub mod Chains
pub mod Courses
pub mod Bounds
pub mod Looking
pub mod Fixes
