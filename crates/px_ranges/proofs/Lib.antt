pub mod Ranges
pub mod CutBytes
pub mod Spans
pub mod Places
