pub mod Pending
pub mod Told
