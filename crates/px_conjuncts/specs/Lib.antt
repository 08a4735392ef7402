pub mod Conjuncts
pub mod Paths
