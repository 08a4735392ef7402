pub mod Range
pub mod Cursor
