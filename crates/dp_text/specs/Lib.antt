pub mod Digits
pub mod Each
pub mod Labels
pub mod Lines
pub mod Pieces
pub mod Refused
pub mod Words
