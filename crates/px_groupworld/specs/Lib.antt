pub mod Group
pub mod Steps
pub mod Asks
pub mod Sound
