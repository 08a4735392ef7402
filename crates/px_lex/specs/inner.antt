pub mod Front
pub mod WordLists
