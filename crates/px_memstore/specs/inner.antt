pub mod Merging
pub mod Pieces
pub mod Store
pub mod Waiting
