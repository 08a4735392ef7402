pub mod Given
pub mod Heads
pub mod Behind
pub mod Sources
pub mod Turns
