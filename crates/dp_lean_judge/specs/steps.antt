pub mod Taking
pub mod Stepping
pub mod Leading
pub mod Making
