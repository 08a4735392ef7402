pub mod Applying
pub mod Assigning
pub mod Batches
pub mod Each
pub mod Finding
pub mod Fresh
pub mod Nulls
