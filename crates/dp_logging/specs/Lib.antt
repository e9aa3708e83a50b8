pub mod Pouring
pub mod Lines
pub mod Logged
pub mod Parts
