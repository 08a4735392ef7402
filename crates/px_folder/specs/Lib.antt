pub mod Read
pub mod Drawn
pub mod Damage
pub mod Calls
