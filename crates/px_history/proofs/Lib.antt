pub mod UpTo
pub mod Changes
pub mod Ties
pub mod Histories
pub mod Stays
