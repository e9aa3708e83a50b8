pub mod Lists
pub mod Parts
pub mod Heads
pub mod Going
pub mod Committing
pub mod BrokenOff
pub mod Applied
pub mod CountLemmas
