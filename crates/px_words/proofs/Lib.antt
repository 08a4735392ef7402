mod Quotes
pub mod Turns
