pub mod Raised
pub mod Named
