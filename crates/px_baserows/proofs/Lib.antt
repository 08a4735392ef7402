pub mod Fitting
pub mod Given
pub mod May
pub mod Seen
