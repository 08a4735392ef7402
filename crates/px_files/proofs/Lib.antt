pub mod Once
pub mod Kept
pub mod Opened
pub mod Locals
