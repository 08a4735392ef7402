pub mod Splitting
pub mod Removed
pub mod KeyOrder
