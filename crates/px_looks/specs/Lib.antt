pub mod Counted
pub mod Found
pub mod Keys
pub mod Rows
pub mod Stamps
pub mod Versions
pub mod IndexKeys
pub mod inner
