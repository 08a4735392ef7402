pub mod Rows
pub mod Found
pub mod Changes
pub mod Cells
pub mod Looks
pub mod Lists
pub mod Moves
pub mod Worlds
