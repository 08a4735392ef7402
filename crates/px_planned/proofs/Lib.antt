pub mod Taken
pub mod Chosen
pub mod Explained
