pub mod Ranges
pub mod Cursors
