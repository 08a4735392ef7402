pub mod TestSays
pub mod Rests
pub mod Conditions
pub mod Parts
pub mod Marks
pub mod Ranged
