pub mod OneReading
pub mod Reader
pub mod SnapshotReader
