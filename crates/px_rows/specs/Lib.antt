pub mod inner
pub mod Cells
pub mod Keys
pub mod Spelled
pub mod Stored
