pub mod Fates
pub mod Tells
pub mod Openings
