mod Fitting
mod Indexes
