pub mod inner
pub mod Pieces
pub mod Scripts
