pub mod Admits
pub mod Begins
pub mod Faults
pub mod Leaves
pub mod Reads
pub mod Refused
pub mod Rooms
pub mod inner
