pub mod Known
pub mod Requires
pub mod Sizes
pub mod Causes
pub mod Looks
pub mod Calls
pub mod Counts
pub mod Doubtful
