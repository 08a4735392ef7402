pub mod Counting
pub mod Fitting
pub mod Reread
pub mod Coming
