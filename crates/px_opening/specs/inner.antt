pub mod Faults
pub mod Heights
