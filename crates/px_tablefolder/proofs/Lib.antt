pub mod Stamped
pub mod WorldStops
pub mod TableStops
pub mod StepStops
pub mod Files
