pub mod Tree
pub mod TreeData
