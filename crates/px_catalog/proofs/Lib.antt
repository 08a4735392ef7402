pub mod Holding
pub mod Opening
pub mod Rooms
pub mod Sizes
pub mod Values
