pub mod Rising
pub mod Defining
