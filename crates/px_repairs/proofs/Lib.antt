pub mod Dues
pub mod Fitting
pub mod Handing
pub mod Refusing
pub mod Right
pub mod Shown
pub mod Verdicts
