pub mod Output
pub mod EpochRan
