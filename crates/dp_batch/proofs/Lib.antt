mod Crossing
mod TextLemmas
pub mod rows
