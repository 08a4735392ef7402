pub mod Folder
pub mod Tables
pub mod Stands
pub mod Kept
pub mod Base
