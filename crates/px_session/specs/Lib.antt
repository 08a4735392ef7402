pub mod Replies
pub mod Live
pub mod Selects
