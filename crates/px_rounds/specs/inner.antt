pub mod Desks
pub mod Jobs
pub mod Ways
