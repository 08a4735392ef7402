pub mod Final
pub mod Named
pub mod Exactly
pub mod Selecting
