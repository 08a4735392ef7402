pub mod Pieces
pub mod Reading
pub mod Chains
pub mod Numbers
pub mod Bytes
pub mod Taking
