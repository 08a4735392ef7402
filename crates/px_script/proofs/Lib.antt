pub mod Divisions
pub mod Lines
pub mod Places
pub mod Texts
