pub mod Reading
pub mod Catalogue
pub mod Damage
pub mod Limits
pub mod inner
