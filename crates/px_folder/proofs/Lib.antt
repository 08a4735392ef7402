pub mod Local
pub mod Once
pub mod Found
pub mod Reading
pub mod Same
pub mod Calls
