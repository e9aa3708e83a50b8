pub mod Entries
pub mod Rows
pub mod Search
pub mod Steps
pub mod Leaders
pub mod Taking
