pub mod Basing
pub mod Refused
