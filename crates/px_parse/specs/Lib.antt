pub mod inner
pub mod LeftOut
pub mod Nullness
pub mod Texts
