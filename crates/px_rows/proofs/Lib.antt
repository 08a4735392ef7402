pub mod KeysBack
pub mod Lists
pub mod Newest
pub mod Numbers
pub mod Overlays
pub mod Parts
pub mod Spelled
