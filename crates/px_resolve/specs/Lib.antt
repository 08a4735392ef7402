pub mod Answers
pub mod Conditions
pub mod Literals
pub mod Names
