pub mod inner
pub mod Turns
pub mod Rounds
pub mod Written
