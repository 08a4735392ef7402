pub mod Body
pub mod Faults
pub mod Frame
pub mod Lengths
pub mod Order
pub mod Replay
pub mod Stages
