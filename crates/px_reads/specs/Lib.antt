pub mod Range
pub mod Reads
pub mod inner
