pub mod Among
pub mod Lent
pub mod Parts
pub mod Seen
