pub mod Copy
pub mod Stored
pub mod Runs
pub mod Groups
