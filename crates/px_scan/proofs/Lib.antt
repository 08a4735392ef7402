pub mod Quieting
pub mod Turning
pub mod Going
pub mod Chaining
pub mod Courses
pub mod Bounding
pub mod Looking
pub mod Mending
