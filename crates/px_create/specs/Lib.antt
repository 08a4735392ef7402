pub mod Indexes
pub mod Limits
pub mod Tables
