pub mod Merging
pub mod Reaching
pub mod Saving
