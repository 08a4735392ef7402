pub mod Counted
pub mod Due
pub mod Points
