pub mod Parts
pub mod Stages
pub mod Going
pub mod Logs
pub mod Compacting
