pub mod Given
pub mod Handing
pub mod Noted
pub mod Right
pub mod Shown
