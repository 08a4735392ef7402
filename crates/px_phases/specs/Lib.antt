pub mod Batch
pub mod Begun
pub mod Phases
pub mod inner
