pub mod Arguments
pub mod Spelled
