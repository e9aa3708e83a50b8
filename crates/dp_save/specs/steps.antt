pub mod LineWords
pub mod Reading
pub mod Ending
