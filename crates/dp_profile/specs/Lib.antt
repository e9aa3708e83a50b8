pub mod Sites
pub mod ProfileFits
pub mod Observed
