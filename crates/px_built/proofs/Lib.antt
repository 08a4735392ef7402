pub mod Stays
pub mod Tables
