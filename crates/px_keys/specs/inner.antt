pub mod PartReading
pub mod Written
