pub mod Giving
pub mod Telling
pub mod Ends
pub mod Iterating
pub mod Committing
pub mod Concluding
pub mod Beginning
pub mod Settling
