pub mod Asking
pub mod Deleting
pub mod inner
