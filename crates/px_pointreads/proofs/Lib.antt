pub mod Asked
pub mod Dues
