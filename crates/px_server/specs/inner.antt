pub mod Entering
pub mod Fitting
pub mod Indexing
pub mod Making
pub mod Missing
pub mod Quiet
pub mod Renewing
