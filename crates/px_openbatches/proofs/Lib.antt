pub mod Pendings
pub mod Helds
pub mod Mades
pub mod Hands
pub mod Readies
pub mod Shut
pub mod Flags
pub mod Meetings
