pub mod Batches
pub mod Trail
pub mod Legal
pub mod States
pub mod Answers
pub mod Lasting
pub mod Count
pub mod Recorded
