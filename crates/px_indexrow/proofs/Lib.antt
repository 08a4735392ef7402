pub mod ClosesSeen
pub mod Dues
pub mod FixesSeen
pub mod KeysHeld
pub mod MarksSeen
pub mod Versions
pub mod StatesFit
