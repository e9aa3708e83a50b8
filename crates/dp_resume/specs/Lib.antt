pub mod Saved
pub mod Resumed
pub mod Laws
pub mod steps
