pub mod ReadsOnce
pub mod PlansOnce
pub mod ProfilesOnce
pub mod ListsOnce
pub mod LastOnce
pub mod ThenOnce
pub mod TextsOnce
