pub mod Hints
pub mod Queries
pub mod Requests
pub mod Upserts
