pub mod formers
pub mod Lends
pub mod Memory
pub mod OneIf
