pub mod Removals
pub mod inner
