pub mod Past
pub mod Going
pub mod Whole
pub mod Counting
