pub mod Made
pub mod Pending
pub mod Opens
