pub mod PathColumns
pub mod Naming
pub mod Choice
pub mod Plans
pub mod Explained
pub mod Answers
pub mod Asked
