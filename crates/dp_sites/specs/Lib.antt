pub mod Lists
pub mod Place
pub mod Storings
pub mod Apart
pub mod Compared
pub mod steps
