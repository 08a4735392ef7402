pub mod Commits
pub mod Counts
pub mod Orders
