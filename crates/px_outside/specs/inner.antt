pub mod Calls
pub mod Files
pub mod Listed
pub mod MemStreams
pub mod Metered
pub mod Replay
