pub mod Digits
pub mod Rows
pub mod Typed
pub mod Walks
