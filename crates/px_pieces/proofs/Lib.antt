pub mod Takes
pub mod Bytewise
