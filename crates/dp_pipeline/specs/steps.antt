pub mod Setting
pub mod Supplying
