pub mod Fronts
pub mod Lives
pub mod Selecting
