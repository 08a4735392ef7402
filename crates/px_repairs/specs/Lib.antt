pub mod Refused
pub mod Repairs
