pub mod Lists
pub mod Shuts
pub mod Steps
pub mod Upkeep
