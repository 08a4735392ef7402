pub mod Group
pub mod Room
pub mod Writing
