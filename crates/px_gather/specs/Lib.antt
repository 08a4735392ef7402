pub mod Query
pub mod Gathered
pub mod Answers
