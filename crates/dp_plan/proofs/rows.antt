pub mod Rules
pub mod Checked
pub mod Loads
pub mod Conditions
pub mod Places
pub mod FirstVersion
