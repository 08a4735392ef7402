pub mod Keys
pub mod Typed
