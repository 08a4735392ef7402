pub mod Worlds
pub mod Kept
pub mod Idle
