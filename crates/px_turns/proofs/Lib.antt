pub mod Bytes
pub mod Stamps
pub mod Rows
pub mod Verdicts
