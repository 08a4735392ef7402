pub mod Growth
pub mod Batches
pub mod Standing
pub mod States
pub mod Orders
pub mod Listed
pub mod Lasting
