pub mod Faults
pub mod Stage
pub mod Flushing
