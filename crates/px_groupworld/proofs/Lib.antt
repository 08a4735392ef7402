pub mod Opens
pub mod Entries
pub mod Cells
pub mod Upkeep
pub mod Queries
pub mod Births
pub mod Fresh
pub mod Makes
