pub mod Build
pub mod Offences
pub mod Orders
pub mod Numbers
pub mod Loops
