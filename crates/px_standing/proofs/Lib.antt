pub mod Counted
pub mod Defined
pub mod Finder
pub mod Looked
pub mod Numbered
pub mod SameNames
