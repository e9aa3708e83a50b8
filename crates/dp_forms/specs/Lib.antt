pub mod Registers
pub mod Values
pub mod Codes
