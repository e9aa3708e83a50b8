pub mod Begins
pub mod Making
