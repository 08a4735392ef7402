pub mod Faults
pub mod Giving
pub mod Passed
pub mod Sources
pub mod Turns
