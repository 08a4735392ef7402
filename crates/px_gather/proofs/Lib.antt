pub mod Gathering
pub mod Shapes
pub mod Answering
