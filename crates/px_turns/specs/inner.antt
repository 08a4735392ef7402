pub mod Found
pub mod Pending
