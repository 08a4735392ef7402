pub mod Named
pub mod OneAnswer
pub mod SomeAnswer
pub mod IndexRows
pub mod Ranked
pub mod Planned
pub mod Columns
