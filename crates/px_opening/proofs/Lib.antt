pub mod Lists
pub mod Rising
pub mod Bases
pub mod Groups
pub mod Building
pub mod Pieces
