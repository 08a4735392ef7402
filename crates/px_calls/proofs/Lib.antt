pub mod Runs
pub mod Points
pub mod Stays
pub mod Activates
pub mod Bases
pub mod Keys
