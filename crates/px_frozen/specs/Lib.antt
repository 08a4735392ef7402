pub mod FrozenData
pub mod Frozen
pub mod inner
