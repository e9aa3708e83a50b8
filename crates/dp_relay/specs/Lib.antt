pub mod UnitsKey
pub mod Places
pub mod Facts
pub mod Works
pub mod Offers
pub mod Polls
