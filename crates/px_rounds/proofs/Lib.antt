pub mod Lists
pub mod Turning
pub mod Rounding
pub mod Waying
pub mod Places
pub mod Coursing
pub mod Seating
