mod Done
mod Stepping
mod Whole
