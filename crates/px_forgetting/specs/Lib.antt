pub mod Rows
pub mod Forgetting
