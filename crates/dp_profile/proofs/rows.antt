pub mod Profiles
pub mod Observations
pub mod Fitting
