pub mod Kept
pub mod Rows
pub mod Indexes
pub mod Raised
