pub mod Committing
pub mod Counting
pub mod Ordering
