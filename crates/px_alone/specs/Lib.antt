pub mod Tables
pub mod Answers
pub mod Alone
