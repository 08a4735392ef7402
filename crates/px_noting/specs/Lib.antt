pub mod Apart
pub mod Points
