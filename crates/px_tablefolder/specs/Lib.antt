pub mod Folder
pub mod Stop
